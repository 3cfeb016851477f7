-- Tests of members, one after the other.
-- Assumes nothing.
use Rattle.std.proofs.Common.{◌≡◌, Bool, ◌&&◌, List, [], ◌∷◌, refl, ap}
use Rattle.std.specs.List.{list_all}
use Rattle.theory.specs.Tree.{Tree, seated}
use Rattle.theory.specs.Wellformed.{all_seated}
use Rattle.ratchet_tree.specs.Nodes.{numbers}
use Rattle.ratchet_tree.specs.declared.member.MemberId.{MemberId}
use Rattle.ratchet_tree.specs.declared.member.PublicKey.{PublicKey}

-- each of some members is seated
pub seated-each : (ms : List MemberId) (t : Tree PublicKey) → list_all (λ (m : MemberId). seated m.0 t) ms ≡ all_seated (numbers ms) t
unfolding all_seated
seated-each [] t = refl
seated-each (m ∷ ms) t = ap (λ (b : Bool). seated m.0 t && b) (seated-each ms t)
