-- Chips and letters: the slots theorem, at the halves of a letter.
-- Assumes nothing.
use Rattle.std.proofs.Common.{◌≡◌, ℕ, suc, Bool, true, false, cond, T, eqb, List, [], ◌∷◌, map, Some, Ok, Err, vec_items, sym, refl, ap, ◌∙◌, subst, ap₂, inl, inr, eqb→eq}
use Rattle.theory.specs.Group.{Change, renew, remove, add, Commit, Group, group, allowed, message, newcomer, path_at}
use Rattle.theory.specs.Natural.{map_tree}
use Rattle.theory.specs.Secrets.{Secret, Box, drawn, newcomer_key, init_key}
use Rattle.theory.specs.Tree.{Tree, height, seated}
use Rattle.theory.proofs.Tests.{or_cases}
use Rattle.theory.proofs.Follows.{message-done, group-done}
use Rattle.theory.proofs.Level.{level-kept}
use Rattle.theory.proofs.Wellformed.{well-formed-kept}
use Rattle.ratchet_tree.specs.declared.member.PublicKey.{PublicKey}
use Rattle.messages.specs.Letters.{letter_change, letter_of}
use Rattle.messages.specs.Take.{change_asked, fresh_in}
use Rattle.vault_theory.specs.AtHalves.{map_sealed}
use Rattle.vault_theory.specs.Layout.{layout}
use Rattle.vault_theory.specs.Order.{Order, draw, derive, mix, seal, unseal, forget, publish, map_order}
use Rattle.vault_theory.specs.Orders.{orders_of}
use Rattle.vault_theory.specs.Slots.{boxes_in, carried_out, chip_with, concerns, draws_of, given_by, is_newcomer, next, orders_in, seen}
use Rattle.vault_theory.specs.Vault.{Halves, run, sealed_box}
use Rattle.vault_theory.proofs.AtHalves.{run-at-halves}
use Rattle.vault_theory.proofs.Kept.{slots_kept}
use Rattle.vault_theory.proofs.OrdersNatural.{orders-map}
use Rattle.vault_theory.specs.Capped.{cap_order}
use Rattle.vault_theory.proofs.Capped.{cap-keeps}
use Rattle.commits.specs.declared.error.CommitError.{CommitError}
use Rattle.commits.specs.declared.error.CommitError.TheVariants as commit-error
use Rattle.messages.specs.Letters.{Concerns, Stands, TookLetter}
use Rattle.messages.specs.Message.{Message}
use Rattle.messages.specs.Take.{Taken, commit_asked, fresh_key}
use Rattle.messages.specs.declared.handset.Handset.{Handset}
use Rattle.messages.proofs.Delivery.{letters-arrive, letters-deliver}
use Rattle.messages.proofs.Reading.{one-reading}
use Rattle.orders.specs.Answered.{orders_for}
use Rattle.orders.specs.Order.{order_of}
use Rattle.orders.specs.Roles.{init_in}
use Rattle.orders.specs.Chips.{ChipServed, ChipsServed}

-- the orders from a letter are those of the rules, with their keys as halves; without a newcomer no newcomer's key is looked at
orders-letter :
    (half : Secret → PublicKey) (w m : ℕ) (c : Change) (e : ℕ) (own : PublicKey) (t : Tree Secret) →
    orders_of w (record { committer = m; change = change_asked (letter_change half c e) }) (fresh_in own (letter_change half c e))
    (init_in own (letter_change half c e)) (map_tree half t)
    ≡ map (map_order half) (orders_of w (record { committer = m; change = c }) (drawn newcomer_key (newcomer c) e) (drawn init_key (newcomer c) e) t)
orders-letter half w m renew e own t =
    orders-map half w (record { committer = m; change = renew }) (drawn newcomer_key (newcomer renew) e) (drawn init_key (newcomer renew) e) t
orders-letter half w m (remove x) e own t =
    orders-map half w (record { committer = m; change = remove x }) (drawn newcomer_key x e) (drawn init_key x e) t
orders-letter half w m (add x) e own t =
    orders-map half w (record { committer = m; change = add x }) (drawn newcomer_key x e) (drawn init_key x e) t

cap-one : (half : Secret → PublicKey) (o : Order Secret) → cap_order (map_order half o) ≡ map_order half (cap_order o)
cap-one half (draw t) = refl
cap-one half (derive x s t) = refl
cap-one half (mix s p t) = refl
cap-one half (seal s k) = refl
cap-one half (unseal n s t) = refl
cap-one half (forget s) = refl
cap-one half (publish s) = refl

seen-there : (half : Secret → PublicKey) (bs : List Box) → map (map_sealed half) (seen bs) ≡ map (sealed_box half) bs
seen-there half [] = refl
seen-there half (b ∷ bs) = ap (λ xs. sealed_box half b ∷ xs) (seen-there half bs)

sealed-there :
    (half : Secret → PublicKey) (b : Bool) (bs : List Box) →
    map (map_sealed half) (cond b (seen bs) []) ≡ cond b (map (sealed_box half) bs) []
sealed-there half true bs = seen-there half bs
sealed-there half false bs = refl

-- THE CHIP.
chip-served :
    (keys : Halves PublicKey) → ((k : PublicKey) → T (keys.same k k)) →
    (f : ℕ) (commits : ℕ → Commit) (n w : ℕ) →
    T (allowed (commits n) (group f commits n)) → T (concerns w (commits n) (group f commits n)) →
    ChipServed keys f commits n w (map (map_order keys.half) (orders_in w (commits n) (group f commits n)))
chip-served keys alike f commits n w ok who =
    let g = group f commits n in
    let c = commits n in
    let half = keys.half in
    let draws = draws_of w c (suc g.epoch) in
    let sent : message f commits n ≡ boxes_in c g = message-done f commits n ok in
    let level = level-kept f commits n in
    let after : next c g ≡ group f commits (suc n) = sym (group-done f commits n ok) in
    let mine = eqb w c.committer in
    let boxed : map (map_sealed half) (cond mine (seen (boxes_in c g)) []) ≡ cond mine (map (sealed_box half) (message f commits n)) [] =
    sealed-there half mine (boxes_in c g) ∙ ap (λ bs. cond mine (map (sealed_box half) bs) []) (sym sent) in
    let kept = slots_kept g (height g.tree) level.0 level.1 (well-formed-kept f commits n).0 c ok w who in
    ap (λ bs. run keys (map (sealed_box half) bs) (map (map_order half) (orders_in w c g)) (chip_with (layout w g) draws)) sent
    ∙ run-at-halves keys alike (boxes_in c g) (orders_in w c g) (chip_with (layout w g) draws) (carried_out w c g) kept
    ∙ (λ i.
    Some
    (record {
      slots = layout w (after i);
      draws = [];
      sealed = boxed i;
      given = map half (given_by w c (suc g.epoch) (path_at c (suc g.epoch) g.tree));
    }))

-- THE ORDERS. A cap on box numbers asks nothing of a key.
cap-map : (half : Secret → PublicKey) (os : List (Order Secret)) → map cap_order (map (map_order half) os) ≡ map (map_order half) (map cap_order os)
cap-map half [] = refl
cap-map half (o ∷ os) = ap₂ (λ x xs. x ∷ xs) (cap-one half o) (cap-map half os)

-- what a handset that stands at the group orders for its letter is what the rules order, at halves
orders-there :
    (half : Secret → PublicKey) (bytes : Box → List ℕ) (f : ℕ) (commits : ℕ → Commit) (n : ℕ) → T (allowed (commits n) (group f commits n)) →
    (h : Handset) → Stands half (group f commits n) h →
    map cap_order (orders_for h (letter_of half bytes f commits n)) ≡ map (map_order half) (orders_in h.member.0 (commits n) (group f commits n))
orders-there half bytes f commits n ok h at =
    let g = group f commits n in
    let c = commits n in
    let e = suc g.epoch in
    let w = h.member.0 in
    let l = letter_of half bytes f commits n in
    let level = level-kept f commits n in
    let os = orders_in w c g in
    ap (λ t. map cap_order (orders_of w (commit_asked l) (fresh_key l) (init_in l.leaf_key l.change) t)) at.tree
    ∙ ap (map cap_order) (orders-letter half w c.committer c.change e l.leaf_key g.tree)
    ∙ cap-map half os
    ∙ ap (map (map_order half))
    (cap-keeps (height g.tree) g.tree level.0 level.1 (well-formed-kept f commits n).0 g.epoch c ok w
    (drawn newcomer_key (newcomer c.change) e) (drawn init_key (newcomer c.change) e))

-- whom a commit concerns, said both ways
newcomer-named : (w : ℕ) (x : Change) → T (is_newcomer w x) → x ≡ add w
newcomer-named w renew h = elim h [ ]
newcomer-named w (remove m) h = elim h [ ]
newcomer-named w (add m) h = ap add (eqb→eq m w h)

concerned : (w : ℕ) (c : Commit) (g : Group) → T (concerns w c g) → Concerns w c g
concerned w c g h =
    elim (or_cases (seated w g.tree) (is_newcomer w c.change) h) [ inl a ↦ inl a | inr b ↦ inr (newcomer-named w c.change b) ]

-- a letter that is delivered is not refused
not-refused :
    (m : Message) (asked : Handset → Type 0) (h after : Handset) (e : CommitError) → after ≡ h → TookLetter m asked h after (Err e) →
    (e ≡ commit-error.OutOfMemory) × (after ≡ h)
not-refused m asked h after (commit-error.Refused x) same t = elim t [ ]
not-refused m asked h after commit-error.OutOfMemory same t = (refl, same)

pub chips-served : ChipsServed
chips-served keys alike halves bytes boxed f fine commits n ok h after at who (Ok v) r =
    let w = h.member.0 in
    let l = letter_of keys.half bytes f commits n in
    let d = letters-deliver keys.half bytes halves boxed f commits n ok in
    let arriving = letters-arrive keys.half bytes halves boxed f fine commits n ok in
    let same : r.message ≡ l = sym (one-reading l r.message arriving.fits r.fits r.bytes) in
    let taken : Taken h l after = subst (λ (m : Message). Taken h m after) same r.taken in
    let orders : map order_of (vec_items v) ≡ map (map_order keys.half) (orders_in w (commits n) (group f commits n)) =
    r.orders ∙ ap (λ (m : Message). map cap_order (orders_for h m)) same ∙ orders-there keys.half bytes f commits n ok h at in (
      d.follows h after at taken,
      subst (ChipServed keys f commits n w) (sym orders) (chip-served keys alike f commits n w ok who),
    )
chips-served keys alike halves bytes boxed f fine commits n ok h after at who (Err e) r =
    let l = letter_of keys.half bytes f commits n in
    let arriving = letters-arrive keys.half bytes halves boxed f fine commits n ok in
    not-refused l (Stands keys.half (group f commits (suc n))) h after e r.0
    (arriving.arrives h after (Err e) at (concerned h.member.0 (commits n) (group f commits n) who) r)
