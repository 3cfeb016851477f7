-- What a line of `span (suc h)` nodes is made of: the left part, the middle node, the right part.
-- `span-*`: numbers; `left-*`, `right-*`, `split-nodes`: the parts; `built-*`: a line put together;
-- `middle-set-is`, `left-write-is`, `right-write-is`: what a write leaves.
use Rattle.std.proofs.Common.{◌≡◌, ℕ, zero, suc, ◌+◌, ◌*◌, ◌^◌, ◌<◌, ◌≤◌, List, [], ◌∷◌, ◌++◌, length, get_or, take, drop, set, sym, refl, ap, ◌∙◌, suc-add, pow-suc, add-one, arith, pow_mono}
use borrow.Rule.Slice.PartMut.{put_mid}
use Rattle.std.proofs.lemmas.List.{take_at, drop_at, get_or_at, set_split, take-append-drop, drop_more, length-take-le, length-drop, length-append, take_more, append_assoc, append-nil, drop_all, drop-drop}
use Rattle.tree_math.specs.Span.{span, middle, left_half, right_half}

pub span_pos : (h : ℕ) → 0 < span h
unfolding span
span_pos zero = omega arith
span_pos (suc h) = omega arith

pub span-suc : (h : ℕ) → span (suc h) ≡ span h + 1 + span h
unfolding span
span-suc h = refl

pub middle-span : (h : ℕ) → middle (span (suc h)) ≡ span h
middle-span h = omega (arith, span-suc h)

pub span-pow : (h : ℕ) → span h + 1 ≡ 2 ^ (h + 1)
unfolding span
span-pow zero = refl
span-pow (suc h) = omega (arith, span-pow h, pow-suc 2 (h + 1), ap (λ (n : ℕ). 2 ^ n) (suc-add h 1))

pub span-double : (h : ℕ) → span h + 1 ≡ 2 * 2 ^ h
span-double h = omega (arith, span-pow h, ap (λ (n : ℕ). 2 ^ n) (add-one h))

pub span-bound : (d : ℕ) → d ≤ 10 → span d ≤ 2047
span-bound d l =
    let m : d + 1 ≤ 11 = omega arith in
    omega (arith, span-pow d, pow_mono m)

-- a line put together of a left part, a node and a right part
module _ {A : Type 0} (h : ℕ) (l : List A) (x : A) (r : List A) (is : length l ≡ span h) where
  pub built-left : take (span h) (l ++ x ∷ r) ≡ l
  built-left = take_at l (x ∷ r) (span h) is

  pub built-middle : (d : A) → get_or (l ++ x ∷ r) (span h) d ≡ x
  built-middle d = get_or_at l x r d (span h) is

  pub built-right : drop (span h + 1) (l ++ x ∷ r) ≡ r
  built-right = sym (drop-drop 1 (span h) (l ++ x ∷ r)) ∙ ap (λ t. drop 1 t) (drop_at l (x ∷ r) (span h) is)

  pub built-length : length r ≡ span h → length (l ++ x ∷ r) ≡ span (suc h)
  built-length ir = length-append l (x ∷ r) ∙ omega (arith, span-suc h, is, ir)

-- the parts of a line of nodes
module _ {A : Type 0} (h : ℕ) (ns : List A) (len : length ns ≡ span (suc h)) where
  pub middle-is : middle (length ns) ≡ span h
  middle-is = omega (arith, span-suc h)

  pub left-half-is : left_half ns ≡ take (span h) ns
  left-half-is = ap (λ (n : ℕ). take n ns) middle-is

  pub right-half-is : right_half ns ≡ drop (span h + 1) ns
  right-half-is = ap (λ (n : ℕ). drop (n + 1) ns) middle-is

  pub take-length : length (take (span h) ns) ≡ span h
  take-length = length-take-le (span h) ns (omega (arith, span-suc h))

  pub drop-length : length (drop (span h + 1) ns) ≡ span h
  drop-length = length-drop (span h + 1) ns ∙ omega (arith, span-suc h)

  pub left-length : length (left_half ns) ≡ span h
  left-length = ap length left-half-is ∙ take-length

  pub right-length : length (right_half ns) ≡ span h
  right-length = ap length right-half-is ∙ drop-length

  -- the middle node is one of the line
  pub middle-below : span h < length ns
  middle-below = omega (arith, span-suc h)

  pub split-nodes : (d : A) → ns ≡ take (span h) ns ++ get_or ns (span h) d ∷ drop (span h + 1) ns
  split-nodes d = sym (take-append-drop (span h) ns) ∙ ap (λ t. take (span h) ns ++ t) (drop_more ns (span h) d middle-below)

  -- the middle node written over
  pub middle-set-is : (x : A) → set ns (span h) x ≡ take (span h) ns ++ x ∷ drop (span h + 1) ns
  middle-set-is x = set_split ns (span h) x middle-below ∙ ap (λ (n : ℕ). take (span h) ns ++ x ∷ drop n ns) (sym (add-one (span h)))

-- the left part written over, as through `&mut ns[0..span h]`: `ys` is what it holds now
module _ {A : Type 0} (h k : ℕ) (ns ys : List A) (len : length ns ≡ span (suc h)) (ks : k ≡ span h) (is : length ys ≡ span h) where
  pub left-write-is : (d : A) → put_mid 0 k ns ys ≡ ys ++ get_or ns (span h) d ∷ drop (span h + 1) ns
  left-write-is d = ap (λ t. ys ++ t) (ap (λ (n : ℕ). drop n ns) ks ∙ drop_more ns (span h) d (middle-below h ns len))

-- the right part written over, as through `&mut ns[span h + 1..]`: `zs` is what it holds now
module _ {A : Type 0} (h a k : ℕ) (ns zs : List A) (len : length ns ≡ span (suc h)) (starts : a ≡ span h + 1) (ks : k ≡ span h) (is : length zs ≡ span h) where
  -- nothing stands behind the right part
  right-rest : zs ++ drop k (drop a ns) ≡ zs
  right-rest = ap (λ t. zs ++ t) (drop_all k (drop a ns) (omega (arith, length-drop a ns, span-suc h))) ∙ append-nil zs

  pub right-write-is : (d : A) → put_mid a k ns zs ≡ take (span h) ns ++ get_or ns (span h) d ∷ zs
  right-write-is d =
      ap (λ t. take a ns ++ t) right-rest ∙ ap (λ (n : ℕ). take n ns ++ zs) starts
      ∙ ap (λ t. t ++ zs) (take_more ns (span h) d (middle-below h ns len)) ∙ append_assoc (take (span h) ns) (get_or ns (span h) d ∷ []) zs
