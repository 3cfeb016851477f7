-- The verdict on a file, and reading back what was written.
-- Assumes nothing.
use Rattle.std.proofs.Common.{◌≡◌, ℕ, Bool, true, false, not, T, ◌⊎◌, List, ◌++◌, Some, None, Ok, Err, Option, Result, sym, refl, ap, ◌∙◌, subst, inl, inr, arith, T_not}
use Rattle.theory.specs.Group.{first_of}
use Rattle.theory.specs.Tree.{Tree}
use Rattle.theory.specs.Wellformed.{well_formed}
use Rattle.theory.proofs.Tests.{decided, is_true, is_false}
use Rattle.ratchet_tree.specs.declared.member.PublicKey.{PublicKey}
use Rattle.tree_files.specs.Verdict.{File, Fits, bytes_of, file_of, Written, IsFile, file_refusal, Loaded}
use Rattle.tree_files.specs.Write.{Filed}
use Rattle.tree_files.specs.Laws.{FilePrecedence, FileRoundTrip, Kept}
use Rattle.commits.specs.declared.error.CommitError.TheVariants as file-error
use Rattle.messages.specs.declared.message.WriteError.{WriteError}
use Rattle.messages.specs.declared.message.WriteError.TheVariants as write-error
use Rattle.messages.specs.Errors.{unparsed}
use Rattle.messages.specs.TreeFile.{Parsed}
use Rattle.messages.specs.declared.tree_file.FileError.{FileError}
use Rattle.messages.specs.declared.tree_file.FileError.TheVariants as parse-error
use Rattle.messages.proofs.Filing.{one-tree}

pub breaks-a-rule : (f : File) → well_formed f.tree ≡ false → file_refusal (Some f) ≡ Some 8
breaks-a-rule f h = ap (λ (b : Bool). first_of (not b) 8 None) h

-- bytes that are no tree's, or no memory
pub not-loaded : (b : List ℕ) (e : FileError) → Parsed b (Err e) → Loaded b (Err (unparsed e))
not-loaded b parse-error.Malformed none = (None, (λ f w. none f.epoch f.depth f.tree w.0 w.1), refl)
not-loaded b parse-error.OutOfMemory none = tt

keeps-the-rules : (f : File) → well_formed f.tree ≡ true → file_refusal (Some f) ≡ None
keeps-the-rules f h = ap (λ (b : Bool). first_of (not b) 8 None) h

same-file : {e e' d d' : ℕ} {t t' : Tree PublicKey} → e ≡ e' → d ≡ d' → t ≡ t' → ◌≡◌ {A = File} (record { epoch = e; depth = d; tree = t }) (record { epoch = e'; depth = d'; tree = t' })
same-file p q r = cc

one-file : (b : List ℕ) (f g : File) → Written b f → Written b g → f ≡ g
one-file b f g p q =
    let s = one-tree f.epoch f.depth g.epoch g.depth f.tree g.tree p.0 q.0 (sym p.1 ∙ q.1) in
    same-file s.0 s.1 s.2

-- different answers
some-none : {n : ℕ} → Some n ≡ None → ⊥
some-none e = let z : ◌≡◌ {A = ℕ} 0 1 = cc in omega arith

some_is : {m n : ℕ} → Some m ≡ Some n → m ≡ n
some_is e = cc

pub file-precedence : FilePrecedence
file-precedence b None none =
    record {
      malformed = (λ _. none, λ _. refl);
      bad_tree = (λ e. absurd (omega (arith, some_is e)), λ p. absurd (none p.0 p.1));
      good = (λ e. absurd (some-none e), λ p. absurd (none p.0 p.1));
    }
file-precedence b (Some f) w =
    elim (decided (well_formed f.tree)) [
      | inl h ↦
          let no : file_refusal (Some f) ≡ None = keeps-the-rules f (is_true (well_formed f.tree) h) in
          record {
            malformed = (λ e. absurd (some-none (sym e ∙ no)), λ n. absurd (n f w));
            bad_tree = (
              λ e. absurd (some-none (sym e ∙ no)),
              λ p. absurd (T_not (well_formed p.0.tree) p.2 (subst (λ (g : File). T (well_formed g.tree)) (one-file b f p.0 w p.1) h)),
            );
            good = (λ _. (f, w, h), λ _. no);
          }
      | inr h ↦
          let eight : file_refusal (Some f) ≡ Some 8 = breaks-a-rule f (is_false (well_formed f.tree) h) in
          record {
            malformed = (λ e. absurd (omega (arith, some_is (sym e ∙ eight))), λ n. absurd (n f w));
            bad_tree = (λ _. (f, w, h), λ _. eight);
            good = (
              λ e. absurd (some-none (sym eight ∙ e)),
              λ p. absurd (T_not (well_formed f.tree) h (subst (λ (g : File). T (well_formed g.tree)) (one-file b p.0 f p.1 w) p.2)),
            );
          }
    ]

-- no answer but the file itself
refused-not : (f : File) → Fits f → T (well_formed f.tree) → (n : ℕ) (o : Option File) → IsFile (bytes_of f) o → file_refusal o ≡ Some n → ⊥
refused-not f fits h n None none e = none f (fits, refl)
refused-not f fits h n (Some g) w e =
    let is : f ≡ g = one-file (bytes_of f) f g (fits, refl) w in
    some-none (sym e ∙ keeps-the-rules g (is_true (well_formed g.tree) (subst (λ (x : File). T (well_formed x.tree)) is h)))

pub file-round-trip : FileRoundTrip
file-round-trip f fits h (Ok p) q = inr (p, refl, one-file (bytes_of f) (file_of p) f q.0 (fits, refl))
file-round-trip f fits h (Err (file-error.Refused x)) q = absurd (refused-not f fits h _ q.0 q.1 q.2)
file-round-trip f fits h (Err file-error.OutOfMemory) q = inl refl

pub kept : (f : File) → Fits f → T (well_formed f.tree) → Kept f
kept f fits h = record { written = λ before after r q. put before after r q; read = file-round-trip f fits h }
  where
    put : (before after : List ℕ) (r : Result (Unit {0}) WriteError) → Filed f before after r → (r ≡ Err write-error.OutOfMemory) ⊎ (after ≡ before ++ bytes_of f)
    put before after (Ok x) q = inr q.1
    put before after (Err write-error.DoesNotFit) q = absurd (q.1 fits)
    put before after (Err write-error.OutOfMemory) q = inl refl
