-- Why a message that has passed the first tests is still not taken.
-- Assumes nothing.
use Rattle.std.proofs.Common.{◌≡◌, ℕ, suc, Bool, true, false, not, ◌&&◌, leb, Some, None, Option, sym, refl, ap, ◌∙◌, ap₂, arith}
use Rattle.std.proofs.lemmas.Bool.{eq-eqb}
use Rattle.theory.specs.Group.{change_refusal, first_of, refusal}
use Rattle.theory.specs.Limits.{last_epoch}
use Rattle.theory.specs.Tree.{Tree, seated}
use Rattle.ratchet_tree.specs.declared.member.PublicKey.{PublicKey}
use Rattle.messages.specs.Message.{Message}
use Rattle.messages.specs.Take.{change_asked, commit_asked, is_newcomer, is_stranger, message_refusal, or_next, right_counts}

-- the last epoch is asked about twice
last-once : (last : Bool) (o x : Option ℕ) → first_of last 9 (or_next (first_of last 9 o) x) ≡ or_next (first_of last 9 o) x
last-once true o x = refl
last-once false o x = refl

-- the epoch is the next, and the handset is no stranger: what is left is the commit, and then the counts
pub passed : (w e : ℕ) (t : Tree PublicKey) (m : Message) → m.epoch ≡ suc e → is_stranger w t m ≡ false →
    message_refusal w e t m ≡ or_next (refusal e (commit_asked m) t) (first_of (not (right_counts t m)) 7 None)
passed w e t m n s =
    let counts : Option ℕ = first_of (not (right_counts t m)) 7 None in
    ap₂ (λ (same strange : Bool). first_of (leb last_epoch e) 9 (first_of (not same) 2 (first_of strange 3 (or_next (refusal e (commit_asked m) t) counts)))) (eq-eqb m.epoch (suc e) n) s
    ∙ last-once (leb last_epoch e) (first_of (not (seated m.committer t)) 3 (change_refusal m.committer (change_asked m.change) t)) counts

-- a committer that is a stranger isn't seated, which the commit is refused for too
own-chain : (last seat new : Bool) (o x : Option ℕ) →
    first_of last 9 (first_of (not seat && not new) 3 (or_next (first_of last 9 (first_of (not seat) 3 o)) x)) ≡ or_next (first_of last 9 (first_of (not seat) 3 o)) x
own-chain true seat new o x = refl
own-chain false true new o x = refl
own-chain false false true o x = refl
own-chain false false false o x = refl

-- the same for the committer's own handset
pub own-passed : (e : ℕ) (t : Tree PublicKey) (m : Message) → m.epoch ≡ suc e →
    message_refusal m.committer e t m ≡ or_next (refusal e (commit_asked m) t) (first_of (not (right_counts t m)) 7 None)
own-passed e t m n =
    let counts : Option ℕ = first_of (not (right_counts t m)) 7 None in
    ap (λ (same : Bool). first_of (leb last_epoch e) 9 (first_of (not same) 2 (first_of (is_stranger m.committer t m) 3 (or_next (refusal e (commit_asked m) t) counts)))) (eq-eqb m.epoch (suc e) n)
    ∙ own-chain (leb last_epoch e) (seated m.committer t) (is_newcomer m.committer m.change) (change_refusal m.committer (change_asked m.change) t) counts

pub only-seven : (b : Bool) (n : ℕ) → first_of b 7 None ≡ Some n → n ≡ 7
only-seven true n e = let z : 7 ≡ n = cc in sym z
only-seven false n e = let z : ◌≡◌ {A = ℕ} 0 1 = cc in absurd (omega arith)
