-- Runs of letters: who takes every letter stands at the group, and the letters carry what the group has sent.
-- Assumes nothing.
use Rattle.std.proofs.Common.{◌≡◌, ℕ, zero, suc, ◌+◌, ◌<◌, T, List, [], ◌∷◌, ◌++◌, length, sym, refl, ap, ◌∙◌, subst, ap₂, inl, inr, append_assoc, arith, T_not}
use Rattle.std.proofs.lemmas.List.{append-nil}
use Rattle.theory.specs.Group.{Commit, Group, allowed, group, message, own_key, path_key}
use Rattle.theory.specs.Limits.{nobody}
use Rattle.theory.specs.Natural.{map_tree}
use Rattle.theory.specs.Promise.{Exposure, stocks}
use Rattle.theory.specs.Secrets.{Secret, Box, Knows, lock, talk, ups}
use Rattle.theory.specs.Tree.{Tree}
use Rattle.theory.proofs.Follows.{path, next, message-refused, group-refused, now-permitted}
use Rattle.theory.proofs.Secrecy.{main}
use Rattle.theory.proofs.Tests.{decided}
use Rattle.ratchet_tree.specs.declared.member.PublicKey.{PublicKey}
use Rattle.wire.specs.Bytes.{Half}
use Rattle.messages.specs.Compose.{compose_refusal, message_by}
use Rattle.messages.specs.Runs.{boxes_sent, carried, halves_given, HandedOn, LetterMade, LetterRun, RunsOfLetters}
use Rattle.messages.specs.Letters.{Arriving, Delivered, Stands, first_halves, letter_of, sealed_bytes}
use Rattle.messages.specs.Message.{Message, encode, message_of}
use Rattle.messages.specs.Take.{Taken}
use Rattle.messages.specs.declared.handset.Handset.{Handset}
use Rattle.messages.proofs.Composing.{free-made, one-made}
use Rattle.messages.proofs.Delivery.{letters-arrive, letters-deliver}
use Rattle.messages.proofs.Letters.{next-sent}
use Rattle.messages.proofs.Reading.{one-reading}

-- BOXES.
sealed-append : (bytes : Box → List ℕ) (ds bs : List Box) → sealed_bytes bytes (ds ++ bs) ≡ sealed_bytes bytes ds ++ sealed_bytes bytes bs
unfolding sealed_bytes
sealed-append bytes [] bs = refl
sealed-append bytes (d ∷ ds) bs =
    ap (λ (l : List ℕ). bytes d ++ l) (sealed-append bytes ds bs) ∙ sym (append_assoc (bytes d) (sealed_bytes bytes ds) (sealed_bytes bytes bs))

carried-is : (half : Secret → PublicKey) (bytes : Box → List ℕ) (f : ℕ) (commits : ℕ → Commit) (until : ℕ) →
    carried half bytes f commits until ≡ sealed_bytes bytes (boxes_sent f commits until)
unfolding carried boxes_sent sealed_bytes
carried-is half bytes f commits zero = refl
carried-is half bytes f commits (suc n) =
    ap (λ (l : List ℕ). l ++ sealed_bytes bytes (message f commits n)) (carried-is half bytes f commits n)
    ∙ sym (sealed-append bytes (boxes_sent f commits n) (message f commits n))

module _
    (half : Secret → PublicKey) (bytes : Box → List ℕ) (halves : (s : Secret) → Half (half s)) (boxed : (b : Box) → length (bytes b) ≡ 48)
    (f : ℕ) (member : f < nobody) (commits : ℕ → Commit)
  where
    sent_is : (until : ℕ) → boxes_sent f commits until ≡ (group f commits until).sent
    unfolding boxes_sent
    sent_is zero = unfold group in refl
    sent_is (suc n) =
        ap (λ (l : List Box). l ++ message f commits n) (sent_is n)
        ∙ elim (decided (allowed (commits n) (group f commits n))) [
          | inl a ↦ sym (next-sent half bytes halves boxed f commits n a)
          | inr b ↦
              ap (λ (l : List Box). (group f commits n).sent ++ l) (message-refused f commits n b)
              ∙ append-nil (group f commits n).sent
              ∙ ap (λ (g : Group). g.sent) (sym (group-refused f commits n b))
        ]

    -- THE COMMITTER.
    letter-made : (n : ℕ) → T (allowed (commits n) (group f commits n)) → (h : Handset) →
        Stands half (group f commits n) h → h.member.0 ≡ (commits n).committer → LetterMade half bytes f commits n h
    letter-made n ok h s w =
        let c : Commit = commits n in
        let g : Group = group f commits n in
        let letter : Message = letter_of half bytes f commits n in
        let d : Delivered half bytes f commits n = letters-deliver half bytes halves boxed f commits n ok in
        let a : Arriving half bytes f commits n = letters-arrive half bytes halves boxed f member commits n ok in
        let nodes : List PublicKey = first_halves (path c g).levels (λ i. half (lock (ups i (path_key c (next c g))))) in
        record {
          free =
              ap₂ (λ (i : ℕ) (t : Tree PublicKey). compose_refusal h.member.0 i t letter.change (halves_given half c g) letter.boxes) s.epoch s.tree
              ∙ ap (λ (i : ℕ). compose_refusal i g.epoch (map_tree half g.tree) letter.change (halves_given half c g) letter.boxes) w
              ∙ free-made c.committer g.epoch (map_tree half g.tree) letter a.fits (d.taken c.committer (inl (now-permitted f commits n ok).present));
          made = λ bs x.
              one-made h letter.change (half (own_key c (next c g))) nodes letter.boxes bs x
              ∙ ap₂ (λ (i e : ℕ). encode (message_by i e letter.change (half (own_key c (next c g))) nodes letter.boxes)) w s.epoch;
        }

    -- HANDSETS.
    one_on : (n : ℕ) (h after : Handset) → Stands half (group f commits n) h → HandedOn half bytes f commits n h after → Stands half (group f commits (suc n)) after
    one_on n h after s on =
        elim (decided (allowed (commits n) (group f commits n))) [
          | inl a ↦
              let d : Delivered half bytes f commits n = letters-deliver half bytes halves boxed f commits n a in
              let b : Arriving half bytes f commits n = letters-arrive half bytes halves boxed f member commits n a in
              let q = on.letter a in
              let same = one-reading (letter_of half bytes f commits n) (message_of q.0) b.fits q.1.0 q.1.1 in
              d.follows h after s (subst (λ (y : Message). Taken h y after) (sym same) q.1.2)
          | inr b ↦
              subst (λ (g : Group). Stands half g after) (sym (group-refused f commits n b))
              (subst (λ (x : Handset). Stands half (group f commits n) x) (sym (on.idle (T_not (allowed (commits n) (group f commits n)) b))) s)
        ]

    keeps-up : (start count : ℕ) (at : ℕ → Handset) → Stands half (group f commits start) (at 0) →
        ((k : ℕ) → k < count → HandedOn half bytes f commits (start + k) (at k) (at (suc k))) →
        Stands half (group f commits (start + count)) (at count)
    keeps-up start zero at s on = subst (λ (n : ℕ). Stands half (group f commits n) (at 0)) (omega arith) s
    keeps-up start (suc k) at s on =
        subst (λ (n : ℕ). Stands half (group f commits n) (at (suc k))) (omega arith)
        (one_on (start + k) (at k) (at (suc k)) (keeps-up start k at s (λ i l. on i (omega arith))) (on k (omega arith)))

    letter-run : (es : List Exposure) → LetterRun half bytes f commits es
    letter-run es =
        record {
          delivered = letters-deliver half bytes halves boxed f commits;
          arriving = letters-arrive half bytes halves boxed f member commits;
          keeps = keeps-up;
          composed = letter-made;
          boxes = sent_is;
          carries = carried-is half bytes f commits;
          secret = λ until n k. main f commits es until n (subst (λ (bs : List Box). Knows bs (stocks f commits es) (talk (group f commits n).secret)) (sent_is until) k);
        }

pub runs-of-letters : RunsOfLetters
runs-of-letters = letter-run
