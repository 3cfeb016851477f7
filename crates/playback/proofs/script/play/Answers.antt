use Rattle.std.proofs.Common.{◌≡◌, ℕ, ◌<◌, ◌≤◌, List, [], ◌∷◌, ◌++◌, length, vec_items, sym, refl, ap, ◌∙◌, subst}
use Rattle.ratchet_tree.specs.declared.member.MemberId.{MemberId}
use Rattle.theory.specs.Limits.{nobody}
use Rattle.scripts.specs.Line.{founder_bytes}
use Rattle.scripts.specs.Lines.{lines_of, max_lines}
use Rattle.playback.specs.Play.{State, Plays, Printed, played, founding}
use Rattle.playback.specs.Steps.{Played}
use Rattle.playback.proofs.script.play.Goals as goal
use Rattle.playback.proofs.script.play.Goals.{in-Ok+in_ok-tree-in-Ok+in_ok-play_lines-in-Ok, in-Err+in_ok-write_refusal-in-Err}

-- what was appended to nothing is all that is printed
printed-alone : (input bytes before after : List ℕ) → before ≡ [] → after ≡ before ++ bytes → Printed input bytes → Printed input after
printed-alone input bytes before after none appended p = subst (Printed input) (sym (appended ∙ ap (λ x. x ++ bytes) none)) p

-- the lines behind a founder's, played from its founding
printed-all : (input before after : List ℕ) (m : MemberId) (rest : List (List ℕ)) (s : State) → length (lines_of input) ≤ max_lines → lines_of input ≡ founder_bytes m ∷ rest → m.0 < nobody →
    s ≡ founding m.0 → before ≡ [] → Played s rest before after → Printed input after
printed-all input before after m rest s few lines member first none p =
    printed-alone input p.bytes before after none p.appended (played m rest p.end p.bytes few lines member (subst (λ (t : State). Plays t rest p.end p.bytes) first p.plays))

pub returns : goal.returns
returns c =
    record {
      bytes =
          elim c.match-begin.branch [
            | in-Ok+in_ok-tree-in-Ok+in_ok-play_lines-in-Ok w ↦
                let b = w.in-Ok.ensures in
                printed-all c.args.input.now (vec_items c.new-out.result) _ w.in-Ok.founder w.in-Ok.lines _ b.0 b.1 b.2
                (ap (λ t. record { tree = t; epoch = 0 }) w.in_ok-tree-in-Ok.ensures) c.new-out.ensures.items (rw w.out-is (w.in_ok-play_lines-in-Ok.ensures refl))
            | in-Err+in_ok-write_refusal-in-Err w ↦ printed-alone c.args.input.now _ (vec_items c.new-out.result) (vec_items c.match-begin.out) c.new-out.ensures.items (rw w.out-is (w.in_ok-write_refusal-in-Err.ensures.bytes.items refl)) w.in-Err.ensures
          ];
    }
