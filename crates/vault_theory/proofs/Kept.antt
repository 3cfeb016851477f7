-- One commit: whoever it concerns carries its orders out, and then has the next layout.
-- Assumes nothing.
use Rattle.std.proofs.Common.{◌≡◌, ℕ, suc, ◌+◌, ◌<◌, ◌≤◌, Bool, true, false, not, ◌||◌, T, eqb, List, [], ◌∷◌, ◌++◌, length, Some, None, sym, refl, ap, ◌∙◌, subst, inl, inr, append-nil, add-zero, arith, eqb→eq, T_not}
use mathlib.Core.List.{map-append}
use lib.Dec.{eqb_refl}
use Rattle.theory.specs.Limits.{max_depth, max_members}
use Rattle.theory.specs.Secrets.{Secret, drawn, newcomer_key, init_key, mix, seed, ups}
use Rattle.theory.specs.Tree.{Tree, seated, members, grown, removed}
use Rattle.theory.specs.Path.{Target}
use Rattle.theory.specs.Group.{Change, renew, remove, add, Commit, Group, readied, own_key, path_key, newcomer, path_at, path_boxes, welcome}
use Rattle.theory.proofs.Tests.{decided, is_true, is_false, or_cases, or_right}
use Rattle.theory.proofs.Level.{Level, Bounded, grown-bounded}
use Rattle.theory.proofs.Removal.{removed-gone}
use Rattle.theory.proofs.Addition.{adding, seated-adding}
use Rattle.theory.proofs.Wellformed.{Fine, renewal, removal, addition, permitted, Sound, consistent-sound, readied-sound, climbing, climbing-sound, seated-grown}
use Rattle.theory.proofs.Follows.{grown-room, stranger}
use Rattle.vault_theory.specs.Order.{slot_of_key, epoch_slot}
use Rattle.vault_theory.specs.Vault.{Sealed, themselves, put, nth, run}
use Rattle.vault_theory.specs.Numbers.{posted}
use Rattle.vault_theory.specs.Orders.{staying, committing, joining, leaving, welcoming}
use Rattle.vault_theory.specs.Layout.{layout}
use Rattle.vault_theory.specs.Slots.{is_newcomer, draws_of, node_keys, boxes_in, seen, orders_in, chip_with, bare, next, carried_out, SlotsKept}
use Rattle.vault_theory.proofs.Steps.{Slots, vault, Runs, done, one-after, then-seal, runs-from, runs_to, runs-end}
use Rattle.vault_theory.proofs.Seats.{seat, meeting}
use Rattle.vault_theory.proofs.Slots.{over, epoch_over, layout-seated, layout-absent}
use Rattle.vault_theory.proofs.Coming.{over-newcomer}
use Rattle.vault_theory.proofs.Following.{node_key, after, after-level, after-seated, Boxed, boxes-length}
use Rattle.vault_theory.proofs.Readying.{readied-level, Stays, stays-seated, readying}
use Rattle.vault_theory.proofs.Roles.{mixed, settled, leave, stay, commit, join}
use Rattle.vault_theory.proofs.Numbering.{levels-laid, posted-laid, nth_left, nth_right}
use Rattle.vault_theory.proofs.Depth.{level-view}

-- the committer seals the welcome box, if there is one
welcoming-runs :
    {boxes : List (Sealed Secret)} (ch : Change) (e : ℕ) (x : Secret) (b : Slots) (ss : List (Sealed Secret)) (gs : List Secret) →
    Runs boxes (welcoming ch (drawn init_key (newcomer ch) e)) (vault (put epoch_slot (Some x) b) [] ss gs)
    (vault (put epoch_slot (Some x) b) [] (ss ++ seen (welcome ch e x)) gs)
welcoming-runs renew e x b ss gs = rw (append-nil ss) done
welcoming-runs (remove m) e x b ss gs = rw (append-nil ss) done
welcoming-runs (add m) e x b ss gs = then-seal epoch_slot (drawn init_key m e) x refl done

-- who commits stays
committer-kept : {c : ℕ} {t : Tree Secret} {ch : Change} → Fine c t ch → Stays c ch
committer-kept renewal = tt
committer-kept (removal x y) = y
committer-kept (addition x y z) = tt

-- no key lies beside the talk secret and the seed
bare-keys : (s : Secret) (h : ℕ) → epoch_over s bare (slot_of_key h) ≡ None
bare-keys s h = grind arith

-- a commit that may be made in a group whose tree keeps the rules
record Allowed (g : Group) (c : ℕ) (ch : Change) : Type 0 where
  depth : ℕ
  level : Level depth g.tree
  small : depth ≤ max_depth
  sound : Sound g.tree
  present : T (seated c g.tree)
  fine : Fine c g.tree ch

module _ (g : Group) (c : ℕ) (ch : Change) where
  abbrev it : Commit
  it = record { committer = c; change = ch }

  abbrev fresh : Secret
  fresh = drawn newcomer_key (newcomer ch) (suc g.epoch)

  abbrev init : Secret
  init = drawn init_key (newcomer ch) (suc g.epoch)

  abbrev own : Secret
  own = own_key it (suc g.epoch)

  abbrev path : Secret
  path = path_key it (suc g.epoch)

  abbrev asked : Tree Secret
  asked = readied ch fresh g.tree

  abbrev boxes : List (Sealed Secret)
  boxes = seen (boxes_in it g)

  -- the epoch's secret and the path, as a member works them out
  abbrev secret : Secret
  secret = mixed c own path g.secret asked

  abbrev targets : List (Target Secret)
  targets = (after c own path asked).targets

  next-secret : (next it g).secret ≡ secret
  next-secret = ap (λ i. mix (seed g.secret) (ups i path)) (levels-laid c own (node_key c own path) asked)

  -- the boxes of the path, and then the welcome
  boxes-are : boxes ≡ seen (path_boxes path targets) ++ seen (welcome ch (suc g.epoch) secret)
  boxes-are = search (map-append, next-secret)

  boxed : Boxed c own path boxes targets
  boxed i z e = search (boxes-are, nth_left)

  -- what each has to show
  abbrev Carried : ℕ → Type 0
  Carried w =
      run themselves boxes (orders_in w it g) (chip_with (layout w g) (draws_of w it (suc g.epoch))) ≡ Some (carried_out w it g)

module _ {g : Group} {c : ℕ} {ch : Change} (now : Allowed g c ch) where
  asked-level : Bounded (asked g c ch)
  asked-level = readied-level (fresh g c ch) now.fine now.level now.small

  asked-sound : Sound (asked g c ch)
  asked-sound = readied-sound (fresh g c ch) now.fine now.sound

  committer-seated : T (seated c (asked g c ch))
  committer-seated = stays-seated (fresh g c ch) c now.fine (committer-kept now.fine) now.present

  layout-after :
      (w : ℕ) → T (seated w (asked g c ch)) → layout w (next (it g c ch) g) ≡ settled c (own g c ch) (path g c ch) g.secret w (asked g c ch)
  layout-after w h =
      layout-seated (next (it g c ch) g)
      (seat w (climbing-sound (climbing c (own g c ch) (node_key c (own g c ch) (path g c ch)) (asked g c ch)) asked-sound)
      (after-level c (own g c ch) (path g c ch) asked-level.1)
      (rw (after-seated c (own g c ch) (path g c ch) w (asked g c ch)) h))
      ∙ ap (λ z. over w (after c (own g c ch) (path g c ch) (asked g c ch)).tree (epoch_over z bare)) (next-secret g c ch)

  stays-kept :
      (w : ℕ) → T (not (eqb w c)) → T (seated w g.tree) → Stays w ch →
      Runs (boxes g c ch) (staying w (it g c ch) (fresh g c ch) g.tree) (vault (layout w g) [] [] [])
      (vault (layout w (next (it g c ch) g)) [] [] [])
  stays-kept w k h s =
      let y = seat w now.sound now.level h in
      let i = stays-seated (fresh g c ch) w now.fine s h in
      runs-from (layout-seated g y)
      (runs_to
      (one-after
      (readying (fresh g c ch) (epoch_over g.secret bare) (bare-keys g.secret) now.fine s now.sound now.small y)
      (stay c (own g c ch) (path g c ch) g.secret [] (meeting w c k asked-sound asked-level.1 i committer-seated) asked-level.2 (boxed g c ch)))
      (sym (layout-after w i)))

  commits-kept :
      Runs (boxes g c ch) (committing (it g c ch) (fresh g c ch) (init g c ch) g.tree)
      (vault (layout c g) (own g c ch ∷ path g c ch ∷ []) [] [])
      (vault (layout c (next (it g c ch) g)) [] (boxes g c ch)
      (own g c ch ∷ node_keys (path_at (it g c ch) (suc g.epoch) g.tree).levels (path g c ch)))
  commits-kept =
      let y = seat c now.sound now.level now.present in
      runs-from (layout-seated g y)
      (runs-end
      (one-after
      (readying (fresh g c ch) (epoch_over g.secret bare) (bare-keys g.secret) now.fine (committer-kept now.fine) now.sound now.small y)
      (commit c (own g c ch) (path g c ch) g.secret (seen (welcome ch (suc g.epoch) (secret g c ch))) (welcoming ch (init g c ch))
      (seat c asked-sound asked-level.1 committer-seated) asked-level.2
      (welcoming-runs ch (suc g.epoch) (secret g c ch))))
      (sym (layout-after c committer-seated)) (sym (boxes-are g c ch))
      (ap (λ i. own g c ch ∷ node_keys i (path g c ch)) (sym (levels-laid c (own g c ch) (node_key c (own g c ch) (path g c ch)) (asked g c ch)))))

-- the welcome box comes after those of the path
welcome-box :
    (g : Group) (c m : ℕ) →
    nth (boxes g c (add m)) (posted c (asked g c (add m)))
    ≡ Some (record { key = init g c (add m); holds = secret g c (add m) })
unfolding nth
welcome-box g c m =
    let front = seen (path_boxes (path g c (add m)) (targets g c (add m))) in
    let e : posted c (asked g c (add m)) ≡ length front + 0 =
    sym (add-zero (length front) ∙ boxes-length (path g c (add m)) (targets g c (add m))
    ∙ posted-laid c (own g c (add m)) (node_key c (own g c (add m)) (path g c (add m))) (asked g c (add m)))
    in
    rw (boxes-are g c (add m), e)
    (nth_right front (seen (welcome (add m) (suc g.epoch) (secret g c (add m)))) 0)

module _ {g : Group} {c m : ℕ} where
  leaves_kept :
      Allowed g c (remove m) → T (seated m g.tree) →
      Runs (boxes g c (remove m)) (leaving m g.tree) (vault (layout m g) [] [] [])
      (vault (layout m (next (it g c (remove m)) g)) [] [] [])
  leaves_kept now h =
      let y = seat m now.sound now.level h in
      runs-from (layout-seated g y)
      (runs_to (leave g.secret y now.small)
      (sym
      (layout-absent m (next (it g c (remove m)) g)
      (rw (after-seated c (own g c (remove m)) (path g c (remove m)) m (removed m g.tree)) (removed-gone m g.tree)))))

  joins-kept :
      Allowed g c (add m) → T (not (seated m g.tree)) → members g.tree < max_members →
      Runs (boxes g c (add m)) (joining m (it g c (add m)) (fresh g c (add m)) g.tree)
      (vault (layout m g) (fresh g c (add m) ∷ init g c (add m) ∷ []) [] [])
      (vault (layout m (next (it g c (add m)) g)) [] [] (fresh g c (add m) ∷ init g c (add m) ∷ []))
  joins-kept now h room =
      let t = grown g.tree in
      let v = (adding m (fresh g c (add m)) t (grown-room g.tree)).1 in
      let wide = grown-bounded g.tree room (now.depth, now.level, now.small) in
      let i : T (seated m (asked g c (add m))) = rw (seated-adding v m) (or_right (seated m t) (eqb m m) (eqb_refl m)) in
      runs-from (layout-absent m g h)
      (runs_to
      (join c (own g c (add m)) (path g c (add m)) g.secret (fresh g c (add m)) (init g c (add m))
      (meeting m c (stranger m c g.tree h now.present) (asked-sound now) (asked-level now).1 i (committer-seated now))
      (asked-level now).2 (boxed g c (add m))
      (over-newcomer bare (λ _ _. refl) v (rw (seated-grown m g.tree) h) wide.1)
      (welcome-box g c m))
      (sym (layout-after now m i)))

-- BY ROLE
committer-carries : {g : Group} {c : ℕ} {ch : Change} → Allowed g c ch → Carried g c ch c
committer-carries {c} now = rw (is_true (eqb c c) (eqb_refl c)) (commits-kept now).ran

leaver-carries : {g : Group} {c m : ℕ} → Allowed g c (remove m) → T (seated m g.tree) → T (not (eqb m c)) → Carried g c (remove m) m
leaver-carries {c} {m} now h n =
    rw (is_false (eqb m c) n, is_true (eqb m m) (eqb_refl m)) (leaves_kept now h).ran

newcomer-carries :
    {g : Group} {c m : ℕ} → Allowed g c (add m) → T (not (seated m g.tree)) → members g.tree < max_members → Carried g c (add m) m
newcomer-carries {g} {c} {m} now h room = grind (arith, joins-kept)

only : (b : Bool) → T (b || false) → T b
only true h = tt
only false h = h

others-carry :
    {g : Group} {c : ℕ} {ch : Change} (w : ℕ) → Fine c g.tree ch → Allowed g c ch → T (not (eqb w c)) →
    T (seated w g.tree || is_newcomer w ch) → Carried g c ch w
others-carry {g} {c} w renewal now n h =
    rw (is_false (eqb w c) n) (stays-kept now w n (only (seated w g.tree) h) tt).ran
others-carry {g} {c} w (removal {m} y z) now n h =
    elim (decided (eqb m w)) [
      | inl e ↦ subst (Carried g c (remove m)) (eqb→eq m w e) (leaver-carries now y z)
      | inr k ↦ rw (is_false (eqb w c) n, is_false (eqb m w) k) (stays-kept now w n (only (seated w g.tree) h) k).ran
    ]
others-carry {g} {c} w (addition {m} y z room) now n h =
    elim (decided (eqb m w)) [
      | inl e ↦ subst (Carried g c (add m)) (eqb→eq m w e) (newcomer-carries now y room)
      | inr k ↦
          let i : T (seated w g.tree) =
          elim (or_cases (seated w g.tree) (eqb m w) h) [ inl j ↦ j | inr j ↦ absurd (T_not (eqb m w) k j) ]
          in
          rw (is_false (eqb w c) n, is_false (eqb m w) k) (stays-kept now w n i tt).ran
    ]

pub slots_kept : SlotsKept
slots_kept g d level small rules c ok w h =
    let may = permitted g.epoch c g.tree ok in
    let now : Allowed g c.committer c.change =
    record {
      depth = d;
      level = level-view d g.tree level;
      small = small;
      sound = consistent-sound g.tree rules;
      present = may.present;
      fine = may.asked;
    }
    in
    elim (decided (eqb w c.committer)) [
      | inl e ↦ subst (Carried g c.committer c.change) (sym (eqb→eq w c.committer e)) (committer-carries now)
      | inr n ↦ others-carry w may.asked now n h
    ]
