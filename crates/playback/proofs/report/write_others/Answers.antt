use Rattle.std.proofs.Common.{◌≡◌, ℕ, List, ◌∷◌, ◌++◌, get_or, take, vec_items, sym, refl, ap, ◌∙◌, rules}
use Rattle.ratchet_tree.specs.Nodes.{numbers}
use Rattle.scripts.specs.Decimal.{decimal}
use Rattle.playback.specs.Report.{behind_bytes}
use Rattle.playback.proofs.Writing.{then-more}
use Rattle.playback.proofs.Nodes.{behind_more}
use Rattle.playback.proofs.report.write_others.Goals as goal

pub loop-member-preserved : goal.loop-member-preserved
loop-member-preserved c =
    let m : ℕ = (get_or c.args.members.now c.loop-member.member-index (record { 0 = 0 })).0 in
    let before : List ℕ = vec_items c.args.out.now in
    let so_far : List ℕ = behind_bytes (numbers (take c.loop-member.member-index c.args.members.now)) in
    let is : c.from.result ≡ m = search rules in
    then-more before so_far (44 ∷ decimal c.from.result) c.loop-member.invariant (c.in_ok-write_behind.ensures.items refl)
    ∙ ap (λ (n : ℕ). before ++ (so_far ++ 44 ∷ decimal n)) is
    ∙ ap (λ l. before ++ l) (sym (behind_more c.args.members.now c.loop-member.member-index (record { 0 = 0 }) c.loop-member-test.true))
