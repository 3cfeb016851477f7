-- The letter of a commit that is allowed: nobody whom it concerns refuses it, and it brings a handset to the group's next tree.
-- Assumes nothing.
use Rattle.std.proofs.Common.{◌≡◌, ℕ, zero, suc, ◌+◌, ◌*◌, ◌/◌, ◌<◌, true, false, not, T, eqb, List, [], ◌∷◌, ◌++◌, length, get_or, is_some, Some, None, Option, sym, refl, ap, ◌∙◌, subst, ap₂, inl, inr, append_assoc, arith}
use Rattle.std.proofs.lemmas.List.{length-append, length-map}
use Rattle.std.proofs.lemmas.Bool.{cond-false, cases_Bool, not_from_true, and_left, and_right, eq-eqb, and_from}
use Rattle.theory.specs.Group.{Change, renew, remove, add, Commit, Group, first_of, refusal, readied, laid_by, newcomer, own_key, path_key, path_at, path_boxes, welcome, epoch_secret, boxes_of, allowed, group, message}
use Rattle.theory.specs.Natural.{map_tree, map_target, map_laid}
use Rattle.theory.specs.Path.{Laid, Target, laid, climbed, level_after}
use Rattle.theory.specs.Secrets.{Secret, Box, drawn, newcomer_key, lock, ups}
use Rattle.theory.specs.Tree.{Tree, leaf, node, Parent, seated, resolution}
use Rattle.theory.proofs.Follows.{message-done, group-done}
use Rattle.theory.proofs.Natural.{seated-map, refusal-map, readied-map, laid-map}
use Rattle.theory.proofs.Tests.{is_true}
use Rattle.ratchet_tree.specs.declared.member.PublicKey.{PublicKey}
use Rattle.commits.specs.Apply.{welcomes}
use Rattle.commits.proofs.Laying.{laid-left, laid-right, laid-nowhere}
use Rattle.wire.specs.Bytes.{Half, key_bytes}
use Rattle.messages.specs.Message.{Message}
use Rattle.messages.specs.Take.{HoldsKeys, Taken, joined_keys, change_asked, commit_asked, fresh_in, fresh_key, is_newcomer, is_stranger, right_counts, message_refusal, or_next}
use Rattle.messages.specs.Letters.{letter_change, first_halves, sealed_bytes, letter_for, letter_of, Stands, Concerns}
use Rattle.messages.specs.declared.handset.Handset.{Handset}
use Rattle.wire.proofs.Peeling.{peel-key, divides-32, divides-48}
use Rattle.messages.proofs.Taking.{passed}

-- PATHS. How many keys a path lays, and how many targets it has, is the same whatever the keys: both are there at keys that all look alike.
module _ {K : Type 0} (m : ℕ) (own other : K) (keys others : ℕ → K) (t : Tree K) where
  abbrev blind : K → Unit {0}
  blind k = tt

  alike : map_laid blind (laid m own keys t) ≡ map_laid blind (laid m other others t)
  alike = sym (laid-map blind m own keys t) ∙ laid-map blind m other others t

  pub same-levels : (laid m own keys t).levels ≡ (laid m other others t).levels
  same-levels = ap (λ (x : Laid (Unit {0})). x.levels) alike

  pub same_count : length (laid m own keys t).targets ≡ length (laid m other others t).targets
  same_count =
      sym (length-map (laid m own keys t).targets (map_target blind))
      ∙ ap (λ (x : Laid (Unit {0})). length x.targets) alike
      ∙ length-map (laid m other others t).targets (map_target blind)

-- and the keys above its levels don't matter
module _ {K : Type 0} (m : ℕ) (own : K) (keys others : ℕ → K) where
  abbrev AgreeBelow : ℕ → Type 0
  AgreeBelow n = (i : ℕ) → i < n → keys i ≡ others i

  climbed-agree : (x : Laid K) (side : List K) (put : Parent K → Tree K → Tree K) →
      AgreeBelow (level_after x.levels side) → climbed keys x side put ≡ climbed others x side put
  climbed-agree x [] put same = refl
  climbed-agree x (k ∷ ks) put same = rw (same x.levels (omega arith))

  below-side : (n : ℕ) (side : List K) → AgreeBelow (level_after n side) → AgreeBelow n
  below-side n [] same = same
  below-side n (k ∷ ks) same = λ i h. same i (omega arith)

  higher : (x : Laid K) (y : Laid K) (side : List K) (put : Parent K → Tree K → Tree K) (z w : Laid K) →
      z ≡ climbed keys x side put → w ≡ climbed others y side put → (AgreeBelow x.levels → x ≡ y) → AgreeBelow z.levels → z ≡ w
  higher x y side put z w e f down same =
      let low : AgreeBelow (level_after x.levels side) = subst (λ (l : Laid K). AgreeBelow l.levels) e same in
      e ∙ climbed-agree x side put low ∙ ap (λ (l : Laid K). climbed others l side put) (down (below-side x.levels side low)) ∙ sym f

  pub laid-agree : (t : Tree K) → AgreeBelow (laid m own keys t).levels → laid m own keys t ≡ laid m own others t
  laid-agree (leaf x) same = unfold laid in refl
  laid-agree (node p l r) same =
      elim (cases_Bool (seated m l)) [
        | inl a ↦ higher (laid m own keys l) (laid m own others l) (resolution r) (λ q t. node q t r) _ _
            (laid-left m own keys p l r a) (laid-left m own others p l r a) (laid-agree l) same
        | inr a ↦ elim (cases_Bool (seated m r)) [
          | inl b ↦ higher (laid m own keys r) (laid m own others r) (resolution l) (λ q t. node q l t) _ _
              (laid-right m own keys p l r a b) (laid-right m own others p l r a b) (laid-agree r) same
          | inr b ↦ laid-nowhere m own keys p l r a b ∙ sym (laid-nowhere m own others p l r a b)
        ]
      ]

-- KEYS AS BYTES.
first-at : (n : ℕ) (keys : ℕ → PublicKey) (d : PublicKey) (i : ℕ) → i < n → get_or (first_halves n keys) i d ≡ keys i
unfolding first_halves
first-at zero keys d i h = absurd (omega arith)
first-at (suc n) keys d zero h = refl
first-at (suc n) keys d (suc i) h = first-at n (λ j. keys (suc j)) d i (omega arith)

pub joined_length : (n : ℕ) (keys : ℕ → PublicKey) → ((i : ℕ) → Half (keys i)) → length (joined_keys (first_halves n keys)) ≡ 32 * n
unfolding first_halves joined_keys
joined_length zero keys h = refl
joined_length (suc n) keys h =
    omega (arith, length-append (key_bytes (keys 0)) (joined_keys (first_halves n (λ i. keys (suc i)))), h 0, joined_length n (λ i. keys (suc i)) (λ i. h (suc i)))

pub sealed-length : (bytes : Box → List ℕ) → ((b : Box) → length (bytes b) ≡ 48) → (bs : List Box) → length (sealed_bytes bytes bs) ≡ 48 * length bs
unfolding sealed_bytes
sealed-length bytes h [] = refl
sealed-length bytes h (b ∷ bs) = omega (arith, length-append (bytes b) (sealed_bytes bytes bs), h b, sealed-length bytes h bs)

-- the bytes of keys determine the keys
keys-unique : (ks : List PublicKey) (n : ℕ) (keys : ℕ → PublicKey) (left : List ℕ) → ((i : ℕ) → Half (keys i)) →
    ((i : ℕ) → i < length ks → Half (get_or ks i (record { 0 = [] }))) → joined_keys (first_halves n keys) ≡ joined_keys ks ++ left → length left < 32 →
    ks ≡ first_halves n keys
unfolding first_halves joined_keys
keys-unique [] zero keys left h g e s = refl
keys-unique [] (suc n) keys left h g e s =
    absurd (omega (arith, ap length e, length-append (key_bytes (keys 0)) (joined_keys (first_halves n (λ i. keys (suc i)))), h 0))
keys-unique (k ∷ ks) zero keys left h g e s =
    absurd (omega (arith, ap length e, length-append (key_bytes k ++ joined_keys ks) left, length-append (key_bytes k) (joined_keys ks), g 0 (omega arith)))
keys-unique (k ∷ ks) (suc n) keys left h g e s =
    let p = peel-key (keys 0) k (joined_keys (first_halves n (λ i. keys (suc i)))) (joined_keys ks ++ left) (h 0) (g 0 (omega arith)) (e ∙ append_assoc (key_bytes k) (joined_keys ks) left) in
    ap₂ (λ (x : PublicKey) (xs : List PublicKey). x ∷ xs) (sym p.0) (keys-unique ks n (λ i. keys (suc i)) left (λ i. h (suc i)) (λ i l. g (suc i) (omega arith)) p.1 s)

-- WHAT IS ASKED.
asked_is : (half : Secret → PublicKey) (a : Change) (e : ℕ) → change_asked (letter_change half a e) ≡ a
asked_is half renew e = refl
asked_is half (remove m) e = refl
asked_is half (add m) e = refl

readied-is : (half : Secret → PublicKey) (own : PublicKey) (a : Change) (e : ℕ) (t : Tree Secret) →
    readied (change_asked (letter_change half a e)) (fresh_in own (letter_change half a e)) (map_tree half t) ≡ map_tree half (readied a (drawn newcomer_key (newcomer a) e) t)
readied-is half own renew e t = refl
readied-is half own (remove m) e t = readied-map half (remove m) (drawn newcomer_key m e) t
readied-is half own (add m) e t = readied-map half (add m) (drawn newcomer_key m e) t

none_left : (o : Option ℕ) → T (not (is_some o)) → o ≡ None
none_left None h = refl
none_left (Some n) h = elim h [ ]

no-stranger : (half : Secret → PublicKey) (w : ℕ) (c : Commit) (g : Group) (m : Message) →
    m.change ≡ letter_change half c.change (suc g.epoch) → Concerns w c g → is_stranger w (map_tree half g.tree) m ≡ false
no-stranger half w c g m e (inl s) =
    and_left (not (seated w (map_tree half g.tree))) (not (is_newcomer w m.change))
    (not_from_true (seated w (map_tree half g.tree)) (seated-map half w g.tree ∙ is_true (seated w g.tree) s))
no-stranger half w c g m e (inr s) =
    and_right (not (seated w (map_tree half g.tree))) (not (is_newcomer w m.change))
    (not_from_true (is_newcomer w m.change)
    (ap (is_newcomer w) e ∙ ap (λ (a : Change). is_newcomer w (letter_change half a (suc g.epoch))) s ∙ eq-eqb w w refl))

welcome-length : (a : Change) (e : ℕ) (s : Secret) → length (welcome a e s) ≡ welcomes a
welcome-length renew e s = refl
welcome-length (remove m) e s = refl
welcome-length (add m) e s = refl

-- ONE LETTER, of a commit that is allowed in a group.
module _
    (half : Secret → PublicKey) (bytes : Box → List ℕ) (halves : (s : Secret) → Half (half s)) (boxed : (b : Box) → length (bytes b) ≡ 48)
    (c : Commit) (g : Group) (ok : T (allowed c g)) (bs : List Box)
    (bs-are : bs ≡ boxes_of g.secret c (suc g.epoch) (path_at c (suc g.epoch) g.tree))
  where
    abbrev next : ℕ
    next = suc g.epoch

    abbrev letter : Message
    letter = letter_for half bytes c g bs

    abbrev own : Secret
    own = own_key c next

    abbrev secret_keys : ℕ → Secret
    secret_keys i = lock (ups i (path_key c next))

    abbrev ready : Tree Secret
    ready = readied c.change (drawn newcomer_key (newcomer c.change) next) g.tree

    abbrev path : Laid Secret
    path = path_at c next g.tree

    -- the path over the public tree, at whatever keys
    over : (keys : ℕ → PublicKey) →
        laid_by (commit_asked letter) (fresh_key letter) letter.leaf_key keys (map_tree half g.tree) ≡ laid c.committer (half own) keys (map_tree half ready)
    over keys = ap (λ (t : Tree PublicKey). laid c.committer (half own) keys t) (readied-is half (half own) c.change next g.tree)

    -- COUNTS.
    blank : Laid PublicKey
    blank = laid_by (commit_asked letter) (fresh_key letter) letter.leaf_key (λ _. letter.leaf_key) (map_tree half g.tree)

    blank-is : blank ≡ map_laid half (laid c.committer own (λ _. own) ready)
    unfolding blank
    blank-is = over (λ _. half own) ∙ laid-map half c.committer own (λ _. own) ready

    levels-are : blank.levels ≡ path.levels
    levels-are = ap (λ (x : Laid PublicKey). x.levels) blank-is ∙ same-levels c.committer own own (λ _. own) secret_keys ready

    targets-are : length blank.targets ≡ length path.targets
    targets-are =
        ap (λ (x : Laid PublicKey). length x.targets) blank-is
        ∙ length-map (laid c.committer own (λ _. own) ready).targets (map_target half)
        ∙ same_count c.committer own own (λ _. own) secret_keys ready

    keys-are : path.levels ≡ length letter.node_keys / 32
    keys-are =
        sym (ap (λ (j : ℕ). j / 32) (joined_length path.levels (λ i. half (secret_keys i)) (λ i. halves (secret_keys i))) ∙ divides-32 path.levels)

    pub bs-length : length bs ≡ length path.targets + welcomes c.change
    bs-length =
        ap length bs-are
        ∙ length-append (path_boxes (path_key c next) path.targets) (welcome c.change next (epoch_secret g.secret c next path))
        ∙ ap₂ ◌+◌ (length-map path.targets (λ (t : Target Secret). let b : Box = record { key = t.key; holds = ups t.level (path_key c next) } in b)) (welcome-length c.change next (epoch_secret g.secret c next path))

    boxes-are : length blank.targets + welcomes (change_asked letter.change) ≡ length letter.boxes / 48
    boxes-are =
        ap₂ ◌+◌ targets-are (ap welcomes (asked_is half c.change next))
        ∙ sym bs-length
        ∙ sym (ap (λ (j : ℕ). j / 48) (sealed-length bytes boxed bs) ∙ divides-48 (length bs))

    counts : right_counts (map_tree half g.tree) letter ≡ true
    unfolding blank
    counts =
        and_from (eqb blank.levels (length letter.node_keys / 32)) (eqb (length blank.targets + welcomes (change_asked letter.change)) (length letter.boxes / 48))
        (eq-eqb blank.levels (length letter.node_keys / 32) (levels-are ∙ keys-are))
        (eq-eqb (length blank.targets + welcomes (change_asked letter.change)) (length letter.boxes / 48) boxes-are)

    not-refused : refusal g.epoch (commit_asked letter) (map_tree half g.tree) ≡ None
    not-refused =
        ap (λ (a : Change). refusal g.epoch (record { committer = c.committer; change = a }) (map_tree half g.tree)) (asked_is half c.change next)
        ∙ refusal-map half g.epoch c g.tree
        ∙ none_left (refusal g.epoch c g.tree) ok

    pub is-taken : (w : ℕ) → Concerns w c g → message_refusal w g.epoch (map_tree half g.tree) letter ≡ None
    is-taken w concerned =
        let t = map_tree half g.tree in
        passed w g.epoch t letter refl (no-stranger half w c g letter refl concerned)
        ∙ ap (λ (o : Option ℕ). or_next o (first_of (not (right_counts t letter)) 7 None)) not-refused
        ∙ cond-false (not (right_counts t letter)) (Some 7) None (not_from_true (right_counts t letter) counts)

    -- THE TREE.
    public : laid c.committer (half own) (λ i. half (secret_keys i)) (map_tree half ready) ≡ map_laid half path
    public = laid-map half c.committer own secret_keys ready

    module _ (ks : List PublicKey) (holds : HoldsKeys ks letter.node_keys) where
      keys-same : ks ≡ first_halves path.levels (λ i. half (secret_keys i))
      keys-same =
          keys-unique ks path.levels (λ i. half (secret_keys i)) holds.left (λ i. halves (secret_keys i)) holds.halves holds.bytes holds.short

      agree : (i : ℕ) → i < path.levels → half (secret_keys i) ≡ get_or ks i (half own)
      agree i l =
          sym (ap (λ (js : List PublicKey). get_or js i (half own)) keys-same ∙ first-at path.levels (λ j. half (secret_keys j)) (half own) i l)

      tree_is : (laid_by (commit_asked letter) (fresh_key letter) letter.leaf_key (λ i. get_or ks i letter.leaf_key) (map_tree half g.tree)).tree ≡ map_tree half path.tree
      tree_is =
          ap (λ (x : Laid PublicKey). x.tree)
          (over (λ i. get_or ks i (half own))
          ∙ sym (laid-agree c.committer (half own) (λ i. half (secret_keys i)) (λ i. get_or ks i (half own)) (map_tree half ready)
          (λ i l. agree i (subst (λ (x : Laid PublicKey). i < x.levels) public l)))
          ∙ public)

-- RUNS.
module _
    (half : Secret → PublicKey) (bytes : Box → List ℕ) (halves : (s : Secret) → Half (half s)) (boxed : (b : Box) → length (bytes b) ≡ 48)
    (f : ℕ) (commits : ℕ → Commit) (n : ℕ) (ok : T (allowed (commits n) (group f commits n)))
  where
    abbrev sent_letter : Message
    sent_letter = letter_of half bytes f commits n

    pub next-tree : (ks : List PublicKey) → HoldsKeys ks sent_letter.node_keys →
        (laid_by (commit_asked sent_letter) (fresh_key sent_letter) sent_letter.leaf_key (λ i. get_or ks i sent_letter.leaf_key) (map_tree half (group f commits n).tree)).tree
        ≡ map_tree half (group f commits (suc n)).tree
    next-tree ks holds =
        tree_is half bytes halves boxed (commits n) (group f commits n) ok (message f commits n) (message-done f commits n ok) ks holds
        ∙ ap (λ (x : Group). map_tree half x.tree) (sym (group-done f commits n ok))

    pub next-epoch : sent_letter.epoch ≡ (group f commits (suc n)).epoch
    next-epoch = ap (λ (x : Group). x.epoch) (sym (group-done f commits n ok))

    pub next-sent : (group f commits (suc n)).sent ≡ (group f commits n).sent ++ message f commits n
    next-sent = ap (λ (x : Group). x.sent) (group-done f commits n ok) ∙ ap (λ (bs : List Box). (group f commits n).sent ++ bs) (sym (message-done f commits n ok))

    pub next-stands : (h after : Handset) → Stands half (group f commits n) h → Taken h sent_letter after → Stands half (group f commits (suc n)) after
    next-stands h after s t =
        record {
          tree =
              t.tree
              ∙ ap (λ (u : Tree PublicKey). (laid_by (commit_asked sent_letter) (fresh_key sent_letter) sent_letter.leaf_key (λ i. get_or t.keys i sent_letter.leaf_key) u).tree) s.tree
              ∙ next-tree t.keys t.holds;
          epoch = t.epoch ∙ ap suc s.epoch ∙ next-epoch;
        }
