-- One answer after another.
-- Assumes nothing.
use Rattle.std.proofs.Common.{◌≡◌, ℕ, suc, List, [], ◌∷◌, ◌++◌, None, sym, refl, ap, ◌∙◌, subst, ap₂, append_assoc}
use Rattle.std.proofs.lemmas.List.{append-nil}
use Rattle.theory.specs.Group.{refusal}
use Rattle.theory.specs.Tree.{Tree}
use Rattle.ratchet_tree.specs.declared.member.PublicKey.{PublicKey}
use Rattle.commits.specs.Commits.{commit_of}
use Rattle.commits.specs.declared.change.Commit.{Commit}
use Rattle.scripts.specs.Line.{InRange, line_bytes}
use Rattle.playback.specs.Report.{report_bytes}
use Rattle.playback.specs.Play.{State, Answers, carried, Plays, start, next, after, reported}
use Rattle.playback.specs.Steps.{Answer}

-- the state and the bytes of a commit that was carried out, as the code has them
pub carried-as : (s : State) (line : List ℕ) (c : Commit) (t : Tree PublicKey) (e : ℕ) (before done bytes : List ℕ) → InRange c → line ≡ line_bytes c →
    refusal s.epoch (commit_of c) s.tree ≡ None → t ≡ (after c s).tree → e ≡ suc s.epoch → done ≡ before ++ bytes → bytes ≡ reported c s →
    Answer s line (record { tree = t; epoch = e }) before done
carried-as s line c t e before done bytes i l a p q w b =
    record {
      bytes = reported c s;
      appended = w ∙ ap (λ x. before ++ x) b;
      answers = subst (λ (u : State). Answers s line u (reported c s)) (sym (ap₂ (λ x (y : ℕ). record { tree = x; epoch = y }) p q)) (carried c i l a);
    }

-- the same where nothing changed, from a state that is shown another way
pub same-state : (s t : State) (line before done : List ℕ) → s ≡ t → Answer s line s before done → Answer s line t before done
same-state s t line before done e = subst (λ (u : State). Answer s line u before done) e

-- one line more
pub appended-more : (first mid last bs cs : List ℕ) → mid ≡ first ++ bs → last ≡ mid ++ cs → last ≡ first ++ (bs ++ cs)
appended-more first mid last bs cs e f = f ∙ ap (λ x. x ++ cs) e ∙ append_assoc first bs cs

pub report-as : (e e' b b' k k' : ℕ) (t t' : Tree PublicKey) → e ≡ e' → b ≡ b' → k ≡ k' → t ≡ t' → report_bytes e b k t ≡ report_bytes e' b' k' t'
report-as e e' b b' k k' t t' p q r s =
    ap (λ (x : ℕ). report_bytes x b k t) p ∙ ap (λ (x : ℕ). report_bytes e' x k t) q ∙ ap (λ (x : ℕ). report_bytes e' b' x t) r ∙ ap (report_bytes e' b' k') s

-- some of the lines were played, and these are left
pub record SoFar (s : State) (lines left : List (List ℕ)) (t : State) (before after : List ℕ) : Type 0 where
  pub done : List (List ℕ)
  pub bytes : List ℕ
  pub plays : Plays s done t bytes
  pub all : lines ≡ done ++ left
  pub appended : after ≡ before ++ bytes

pub none_yet : (s : State) (lines : List (List ℕ)) (before : List ℕ) → SoFar s lines lines s before before
none_yet s lines before = record { done = []; bytes = []; plays = start; all = refl; appended = sym (append-nil before) }

pub one_more : (s : State) (lines left : List (List ℕ)) (line : List ℕ) (behind : List (List ℕ)) (t u : State) (before mid last : List ℕ) → SoFar s lines left t before mid → left ≡ line ∷ behind →
    Answer t line u mid last → SoFar s lines behind u before last
one_more s lines left line behind t u before mid last f e a =
    record {
      done = f.done ++ line ∷ [];
      bytes = f.bytes ++ a.bytes;
      plays = next f.plays line a.bytes a.answers;
      all = f.all ∙ ap (λ x. f.done ++ x) e ∙ sym (append_assoc f.done (line ∷ []) behind);
      appended = appended-more before mid last f.bytes a.bytes f.appended a.appended;
    }
