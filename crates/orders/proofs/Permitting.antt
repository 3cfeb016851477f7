-- A commit that is not refused: its committer is seated where the path is laid.
-- Assumes nothing.
use Rattle.std.proofs.Common.{◌≡◌, ℕ, Bool, true, false, not, T, eqb, leb, is_some, Some, None, Option, refl, ap, ◌∙◌, arith}
use Rattle.theory.specs.Group.{Commit, first_of, readied, refusal}
use Rattle.theory.specs.Limits.{last_epoch}
use Rattle.theory.specs.Tree.{Tree, seated}
use Rattle.theory.proofs.Follows.{committer-stays}
use Rattle.theory.proofs.Tests.{is_true}
use Rattle.theory.proofs.Wellformed.{permitted}
use Rattle.ratchet_tree.specs.declared.member.PublicKey.{PublicKey}
use Rattle.messages.specs.Message.{Message}
use Rattle.messages.specs.Take.{commit_asked, is_stranger, message_refusal, or_next, right_counts}

behind-first : (b : Bool) (n : ℕ) (o : Option ℕ) → first_of b n o ≡ None → o ≡ None
behind-first true n o e = let z : ◌≡◌ {A = ℕ} 0 1 = cc in absurd (omega arith)
behind-first false n o e = e

before-next : (a b : Option ℕ) → or_next a b ≡ None → a ≡ None
before-next None b e = refl
before-next (Some n) b e = let z : ◌≡◌ {A = ℕ} 0 1 = cc in absurd (omega arith)

-- a message that is not refused is of a commit that is not refused
pub commit-allowed : (w e : ℕ) (t : Tree PublicKey) (m : Message) → message_refusal w e t m ≡ None → refusal e (commit_asked m) t ≡ None
commit-allowed w e t m a =
    let last : Option ℕ = or_next (refusal e (commit_asked m) t) (first_of (not (right_counts t m)) 7 None) in
    before-next (refusal e (commit_asked m) t) (first_of (not (right_counts t m)) 7 None)
    (behind-first (is_stranger w t m) 3 last
    (behind-first (not (eqb m.epoch _)) 2 (first_of (is_stranger w t m) 3 last)
    (behind-first (leb last_epoch e) 9 _ a)))

no-refusal : (o : Option ℕ) → o ≡ None → T (not (is_some o))
no-refusal None e = tt
no-refusal (Some n) e = let z : ◌≡◌ {A = ℕ} 0 1 = cc in absurd (omega arith)

pub committer-seated : {K : Type 0} (e : ℕ) (c : Commit) (fresh : K) (t u : Tree K) → refusal e c t ≡ None → u ≡ readied c.change fresh t → seated c.committer u ≡ true
committer-seated e c fresh t u a is =
    let p = permitted e c t (no-refusal (refusal e c t) a) in
    ap (seated c.committer) is ∙ is_true (seated c.committer (readied c.change fresh t)) (committer-stays fresh p.asked p.present)
