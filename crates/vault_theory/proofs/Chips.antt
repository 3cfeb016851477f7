-- Every run: each chip has the layout of its group after every commit.
-- Assumes nothing.
use Rattle.std.proofs.Common.{◌≡◌, ℕ, zero, suc, not, T, eqb, [], ◌∷◌, Some, sym, refl, ap, ◌∙◌, inl, inr, arith, eqb→eq}
use lib.Dec.{eqb_refl}
use Rattle.std.specs.Option.{option_map}
use Rattle.theory.specs.Secrets.{Secret, drawn, newcomer_key, first_epoch}
use Rattle.theory.specs.Tree.{Tree, leaf, occupied, seated, height, grown}
use Rattle.theory.specs.Group.{Change, Commit, Group, founded, readied, own_key, path_key, newcomer, allowed, committed, group}
use Rattle.theory.proofs.Tests.{decided, is_true, is_false, nor, nor-left, nor-right}
use Rattle.theory.proofs.Level.{level-kept, at_leaf}
use Rattle.theory.proofs.Addition.{adding, seated-adding}
use Rattle.theory.proofs.Wellformed.{Fine, renewal, removal, addition, permitted, seated-grown, well-formed-kept}
use Rattle.theory.proofs.Follows.{grown-room, other_way}
use Rattle.vault_theory.specs.Order.{slot_of_key, epoch_slot}
use Rattle.vault_theory.specs.Vault.{Vault, put}
use Rattle.vault_theory.specs.Orders.{founding}
use Rattle.vault_theory.specs.Layout.{layout}
use Rattle.vault_theory.specs.Slots.{is_newcomer, concerns, next, slots_after, bare, chip, ChipsHold}
use Rattle.vault_theory.proofs.Steps.{vault, Runs, then-draw, then-publish, runs_to}
use Rattle.vault_theory.proofs.Seats.{here}
use Rattle.vault_theory.proofs.Slots.{over, epoch_over, layout-seated, layout-absent}
use Rattle.vault_theory.proofs.Dropping.{still-absent}
use Rattle.vault_theory.proofs.Following.{after-seated}
use Rattle.vault_theory.proofs.Turning.{Plain, over-epoch, renewing}
use Rattle.vault_theory.proofs.Kept.{slots_kept}
use Rattle.vault_theory.proofs.Stocked.{layout_holds}

-- THE FOUNDER
leaf-over : (f : ℕ) (k : Secret) → over f (leaf (occupied f k)) bare ≡ put (slot_of_key 0) (Some k) bare
unfolding over
leaf-over f k = refl

founder :
    (f : ℕ) →
    Runs [] founding (vault bare (drawn newcomer_key f 0 ∷ drawn first_epoch f 0 ∷ []) [] [])
    (vault (layout f (founded f)) [] [] (drawn newcomer_key f 0 ∷ []))
founder f =
    let k = drawn newcomer_key f 0 in
    let s = drawn first_epoch f 0 in
    let b = put (slot_of_key 0) (Some k) bare in
    let plain : Plain b = record { talk = refl; seed = refl; epoch = refl; path = record { odd = refl; even = refl } } in
    then-draw (slot_of_key 0) k (omega arith) refl
    (then-publish (slot_of_key 0) k refl
    (then-draw epoch_slot s (omega arith) refl
    (runs_to (renewing s b [] plain)
    (sym (layout-seated (founded f) here ∙ over-epoch f s bare (at_leaf {x = occupied f k}) ∙ ap (epoch_over s) (leaf-over f k))))))

-- WHOM A COMMIT DOESN'T CONCERN is seated neither before nor after
still-out :
    {c : ℕ} {ch : Change} {t : Tree Secret} (w : ℕ) (fresh : Secret) → Fine c t ch → T (not (seated w t)) → T (not (is_newcomer w ch)) →
    T (not (seated w (readied ch fresh t)))
still-out w fresh renewal n i = n
still-out {t} w fresh (removal {m} x y) n i = still-absent w m t n
still-out {t} w fresh (addition {m} x y z) n i =
    rw (seated-adding (adding m fresh (grown t) (grown-room t)).1 w, seated-grown w t) (nor (seated w t) (eqb m w) n i)

out-next : (w : ℕ) (c : Commit) (g : Group) → T (allowed c g) → T (not (concerns w c g)) → T (not (seated w (next c g).tree))
out-next w c g ok n =
    rw (after-seated c.committer (own_key c (suc g.epoch)) (path_key c (suc g.epoch)) w
    (readied c.change (drawn newcomer_key (newcomer c.change) (suc g.epoch)) g.tree))
    (still-out w (drawn newcomer_key (newcomer c.change) (suc g.epoch)) (permitted g.epoch c g.tree ok).asked
    (nor-left (seated w g.tree) (is_newcomer w c.change) n) (nor-right (seated w g.tree) (is_newcomer w c.change) n))

-- ONE COMMIT of a run
chip-next :
    (f : ℕ) (commits : ℕ → Commit) (w n : ℕ) →
    slots_after w (commits n) (group f commits n) (layout w (group f commits n)) ≡ Some (layout w (committed (commits n) (group f commits n)))
unfolding committed
chip-next f commits w n =
    let g = group f commits n in
    let c = commits n in
    elim (decided (allowed c g)) [
      | inl ok ↦
          rw (is_true (allowed c g) ok)
          (elim (decided (concerns w c g)) [
            | inl h ↦
                rw (
                  is_true (concerns w c g) h,
                  slots_kept g (height g.tree) (level-kept f commits n).0 (level-kept f commits n).1 (well-formed-kept f commits n).0 c ok w h,
                )
            | inr h ↦
                rw (is_false (concerns w c g) h)
                (ap Some
                (layout-absent w g (nor-left (seated w g.tree) (is_newcomer w c.change) h)
                ∙ sym (layout-absent w (next c g) (out-next w c g ok h))))
          ])
      | inr k ↦ rw (is_false (allowed c g) k)
    ]

chip-slots : (f : ℕ) (commits : ℕ → Commit) (w n : ℕ) → chip f commits w n ≡ Some (layout w (group f commits n))
unfolding chip group
chip-slots f commits w zero =
    elim (decided (eqb w f)) [
      | inl e ↦
          rw (eqb→eq w f e, is_true (eqb f f) (eqb_refl f))
          (ap (option_map (λ (v : Vault Secret). v.slots)) (founder f).ran)
      | inr n ↦ rw (is_false (eqb w f) n) (ap Some (sym (layout-absent w (founded f) (unfold seated in other_way w f n))))
    ]
chip-slots f commits w (suc n) = rw (chip-slots f commits w n) (chip-next f commits w n)

pub chips_hold : ChipsHold
chips_hold f commits w n =
    record {
      slots = chip-slots f commits w n;
      just = layout_holds (group f commits n) (height (group f commits n).tree) w (level-kept f commits n).0;
    }
