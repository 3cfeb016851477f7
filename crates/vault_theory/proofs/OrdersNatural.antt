-- Orders commute with a map of the keys.
-- Assumes nothing.
use Rattle.std.proofs.Common.{◌≡◌, ℕ, suc, Bool, true, false, cond, eqb, List, [], ◌∷◌, ◌++◌, map, length, sym, refl, ap, ◌∙◌, ap₂, arith}
use mathlib.Core.List.{map-append}
use lib.ListN.{length-map}
use Rattle.theory.specs.Tree.{Tree, leaf, node, Parent, blank_parent, keyed, seated, height, resolution}
use Rattle.theory.specs.Held.{is_unmerged}
use Rattle.theory.specs.Group.{Change, renew, remove, add, Commit}
use Rattle.theory.specs.Natural.{map_parent, map_tree}
use Rattle.theory.proofs.Natural.{push, seated-map, height-map, resolution-map, readied-map}
use Rattle.vault_theory.specs.Order.{Order, seal, forget, publish, map_order, talk_slot, seed_slot, slot_of_key, slot_of_path}
use Rattle.vault_theory.specs.Numbers.{levels, posted, is_held, number_of_key, height_of_key}
use Rattle.vault_theory.specs.Orders.{held_forgotten, dropped, dropped_for, climbed, sealed_up, risen, opened, followed, made, staying, committing, joining, abandoned, leaving, taking, orders_of}
use Rattle.vault_theory.specs.OrdersNatural.{OrdersNatural, OrdersNaturality}

module _ {A B : Type 0} (f : A → B) where
  -- THE NUMBERS.
  count_map : (t : Tree A) → length (resolution (map_tree f t)) ≡ length (resolution t)
  count_map t = ap length (resolution-map f t) ∙ length-map (resolution t) f

  pub levels-map : (c : ℕ) (t : Tree A) → levels c (map_tree f t) ≡ levels c t
  unfolding levels map_tree
  levels-map c (leaf x) = refl
  levels-map c (node p l r) = grind (arith, seated-map, resolution-map, levels-map c l, levels-map c r)

  pub posted-map : (c : ℕ) (t : Tree A) → posted c (map_tree f t) ≡ posted c t
  unfolding posted map_tree
  posted-map c (leaf x) = refl
  posted-map c (node p l r) =
      rw (seated-map f c l, seated-map f c r, count_map l, count_map r, posted-map c l, posted-map c r)

  pub number_of_key-map : (w : ℕ) (t : Tree A) → number_of_key w (map_tree f t) ≡ number_of_key w t
  unfolding number_of_key map_tree
  number_of_key-map w (leaf x) = refl
  number_of_key-map w (node blank_parent l r) = rw (seated-map f w l, count_map l, number_of_key-map w l, number_of_key-map w r)
  number_of_key-map w (node (keyed k un) l r) = refl

  pub height_of_key-map : (w : ℕ) (t : Tree A) → height_of_key w (map_tree f t) ≡ height_of_key w t
  unfolding height_of_key map_tree
  height_of_key-map w (leaf x) = refl
  height_of_key-map w (node blank_parent l r) = rw (seated-map f w l, height_of_key-map w l, height_of_key-map w r)
  height_of_key-map w (node (keyed k un) l r) = ap (λ h. cond (is_unmerged w un) 0 (suc h)) (height-map f l)

  -- ORDERS, with their keys mapped.
  abbrev mapped : List (Order A) → List (Order B)
  mapped os = map (map_order f) os

  joined : (xs ys : List (Order A)) (us vs : List (Order B)) → us ≡ mapped xs → vs ≡ mapped ys → us ++ vs ≡ mapped (xs ++ ys)
  joined xs ys us vs p q = ap₂ ◌++◌ p q ∙ sym (map-append (map_order f) xs ys)

  chosen : (b : Bool) (xs ys : List (Order A)) (us vs : List (Order B)) → us ≡ mapped xs → vs ≡ mapped ys → cond b us vs ≡ mapped (cond b xs ys)
  chosen true xs ys us vs p q = p
  chosen false xs ys us vs p q = q

  held_forgotten-map : (w : ℕ) (p : Parent A) (h : ℕ) → held_forgotten w (map_parent f p) h ≡ mapped (held_forgotten w p h)
  held_forgotten-map w blank_parent h = refl
  held_forgotten-map w (keyed k un) h = push mapped (is_held w (keyed k un)) (forget (slot_of_key h) ∷ []) []

  climbed-map : (i h : ℕ) (ks : List A) → climbed i h (map f ks) ≡ mapped (climbed i h ks)
  climbed-map i h [] = refl
  climbed-map i h (k ∷ ks) = refl

  seals-map : (s : ℕ) (ks : List A) → map (seal s) (map f ks) ≡ mapped (map (seal s) ks)
  seals-map s [] = refl
  seals-map s (k ∷ ks) = ap (λ os. seal s (f k) ∷ os) (seals-map s ks)

  sealed_up-map : (i h : ℕ) (ks : List A) → sealed_up i h (map f ks) ≡ mapped (sealed_up i h ks)
  sealed_up-map i h [] = refl
  sealed_up-map i h (k ∷ ks) =
      joined (map (seal (slot_of_path i)) (k ∷ ks)) (risen i h (publish (slot_of_key h) ∷ [])) _ _ (seals-map (slot_of_path i) (k ∷ ks)) refl

  -- A PART of the tree.
  pub dropped-map : (w m : ℕ) (t : Tree A) → dropped w m (map_tree f t) ≡ map (map_order f) (dropped w m t)
  unfolding dropped map_tree
  dropped-map w m (leaf x) = refl
  dropped-map w m (node p l r) = grind (arith, seated-map, height-map, joined, dropped-map w m l, dropped-map w m r)

  pub opened_map : (w c : ℕ) (own other : Tree A) → opened w c (map_tree f own) (map_tree f other) ≡ map_order f (opened w c own other)
  opened_map w c own other = rw (posted-map c own, number_of_key-map w other, height_of_key-map w other, levels-map c own)

  pub followed-map : (w c : ℕ) (t : Tree A) → followed w c (map_tree f t) ≡ map (map_order f) (followed w c t)
  unfolding followed map_tree
  followed-map w c (leaf x) = refl
  followed-map w c (node p l r) =
      let h = suc (height l) in
      rw (
        opened_map w c l r,
        opened_map w c r l,
        seated-map f c l,
        seated-map f w l,
        seated-map f w r,
        height-map f l,
        levels-map c l,
        levels-map c r,
        resolution-map f l,
        resolution-map f r,
      )
      (chosen (seated c l) _ _ _ _
      (half p h (seated w l) (followed w c l) (opened w c l r) _ (levels c l) (resolution r) (followed-map w c l))
      (half p h (seated w r) (followed w c r) (opened w c r l) _ (levels c r) (resolution l) (followed-map w c r)))
    where
      half :
          (p : Parent A) (h : ℕ) (b : Bool) (xs : List (Order A)) (o : Order A) (us : List (Order B)) (i : ℕ) (ks : List A) →
          us ≡ mapped xs →
          cond b us (map_order f o ∷ []) ++ (held_forgotten w (map_parent f p) h ++ climbed i h (map f ks))
          ≡ mapped (cond b xs (o ∷ []) ++ (held_forgotten w p h ++ climbed i h ks))
      half p h b xs o us i ks e =
          joined (cond b xs (o ∷ [])) (held_forgotten w p h ++ climbed i h ks) _ _
          (chosen b xs (o ∷ []) us (map_order f o ∷ []) e refl)
          (joined (held_forgotten w p h) (climbed i h ks) _ _ (held_forgotten-map w p h) (climbed-map i h ks))

  pub made-map : (c : ℕ) (t : Tree A) → made c (map_tree f t) ≡ map (map_order f) (made c t)
  unfolding made map_tree
  made-map c (leaf x) = refl
  made-map c (node p l r) =
      let h = suc (height l) in
      rw (seated-map f c l, height-map f l, levels-map c l, levels-map c r, resolution-map f l, resolution-map f r)
      (chosen (seated c l) _ _ _ _
      (half p h (made c l) _ (levels c l) (resolution r) (made-map c l))
      (half p h (made c r) _ (levels c r) (resolution l) (made-map c r)))
    where
      half :
          (p : Parent A) (h : ℕ) (xs : List (Order A)) (us : List (Order B)) (i : ℕ) (ks : List A) → us ≡ mapped xs →
          us ++ (held_forgotten c (map_parent f p) h ++ sealed_up i h (map f ks)) ≡ mapped (xs ++ (held_forgotten c p h ++ sealed_up i h ks))
      half p h xs us i ks e =
          joined xs (held_forgotten c p h ++ sealed_up i h ks) us _ e
          (joined (held_forgotten c p h) (sealed_up i h ks) _ _ (held_forgotten-map c p h) (sealed_up-map i h ks))

  pub abandoned-map : (w : ℕ) (t : Tree A) → abandoned w (map_tree f t) ≡ map (map_order f) (abandoned w t)
  unfolding abandoned map_tree
  abandoned-map w (leaf x) = refl
  abandoned-map w (node p l r) = grind (arith, seated-map, height-map, joined, abandoned-map w l, abandoned-map w r)

  -- THE ROLES.
  dropped_for-map : (w : ℕ) (a : Change) (t : Tree A) → dropped_for w a (map_tree f t) ≡ mapped (dropped_for w a t)
  dropped_for-map w renew t = refl
  dropped_for-map w (remove m) t = dropped-map w m t
  dropped_for-map w (add m) t = refl

  pub staying-map : (w : ℕ) (c : Commit) (fresh : A) (t : Tree A) → staying w c (f fresh) (map_tree f t) ≡ map (map_order f) (staying w c fresh t)
  staying-map w c fresh t = grind (arith, readied-map, levels-map, joined, dropped_for-map, followed-map)

  pub committing-map : (c : Commit) (fresh init : A) (t : Tree A) → committing c (f fresh) (f init) (map_tree f t) ≡ map (map_order f) (committing c fresh init t)
  committing-map c fresh init t = grind (arith, readied-map, levels-map, joined, dropped_for-map, made-map)

  pub joining-map : (w : ℕ) (c : Commit) (fresh : A) (t : Tree A) → joining w c (f fresh) (map_tree f t) ≡ map (map_order f) (joining w c fresh t)
  joining-map w c fresh t = grind (arith, readied-map, levels-map, posted-map, joined, followed-map)

  leaving-map : (w : ℕ) (t : Tree A) → leaving w (map_tree f t) ≡ mapped (leaving w t)
  leaving-map w t = ap (λ os. forget talk_slot ∷ forget seed_slot ∷ os) (abandoned-map w t)

  taking-map : (w : ℕ) (a : Change) (c : Commit) (fresh : A) (t : Tree A) → taking w a c (f fresh) (map_tree f t) ≡ mapped (taking w a c fresh t)
  taking-map w renew c fresh t = staying-map w c fresh t
  taking-map w (remove m) c fresh t =
      chosen (eqb m w) (leaving w t) (staying w c fresh t) _ _ (leaving-map w t) (staying-map w c fresh t)
  taking-map w (add m) c fresh t = search (chosen, joining-map, staying-map)

  pub orders-map :
      (w : ℕ) (c : Commit) (fresh init : A) (t : Tree A) →
      orders_of w c (f fresh) (f init) (map_tree f t) ≡ map (map_order f) (orders_of w c fresh init t)
  orders-map w c fresh init t = search (chosen, committing-map, taking-map)

  pub orders-natural : OrdersNatural f
  orders-natural = search (levels-map, posted-map, number_of_key-map, height_of_key-map, orders-map)

pub orders_naturality : OrdersNaturality
orders_naturality = orders-natural
