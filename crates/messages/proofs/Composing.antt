-- A message made of a vault's answers.
-- Assumes nothing.
use Rattle.std.proofs.Common.{◌≡◌, ℕ, suc, ◌+◌, ◌*◌, ◌/◌, Bool, true, false, not, ◌&&◌, ◌||◌, T, eqb, ltb, List, [], ◌∷◌, length, Some, None, Ok, Err, Option, Result, sym, refl, ap, ◌∙◌, subst, ap₂, add-one, arith}
use Rattle.std.proofs.lemmas.Bool.{and_from, eq-eqb, lt-ltb}
use Rattle.theory.specs.Group.{first_of, refusal}
use Rattle.theory.specs.Tree.{Tree, seated}
use Rattle.ratchet_tree.specs.Trees.{the_tree}
use Rattle.ratchet_tree.specs.declared.member.PublicKey.{PublicKey}
use Rattle.commits.specs.declared.error.CommitError.{CommitError}
use Rattle.commits.specs.declared.error.CommitError.TheVariants.{Refused, OutOfMemory}
use Rattle.wire.specs.Bytes.{Whole}
use Rattle.messages.specs.Compose.{Composed, ComposedIsTaken, Composes, Made, Makes, Unmade, commit_by, compose_refusal, countable, has_parts, make_refusal, message_by}
use Rattle.messages.specs.Errors.{unwritten}
use Rattle.messages.specs.Message.{Message, Fits, Sent, encode}
use Rattle.messages.specs.Received.{TakesBytes}
use Rattle.messages.specs.Take.{Left, Taken, commit_asked, is_newcomer, joined_keys, message_refusal, or_next, right_counts}
use Rattle.messages.specs.declared.handset.Handset.{Handset}
use Rattle.messages.specs.declared.message.MessageChange.{MessageChange}
use Rattle.messages.specs.declared.message.WriteError.{WriteError}
use Rattle.messages.specs.declared.message.WriteError.TheVariants as write-error
use Rattle.messages.proofs.Delivery.{took}
use Rattle.messages.proofs.Taking.{only-seven, own-passed, passed}

-- WHY NOTHING IS MADE.
only-seven-after : (o : Option ℕ) (b : Bool) → ((n : ℕ) → o ≡ Some n → n ≡ 7) → (n : ℕ) → or_next o (first_of b 7 None) ≡ Some n → n ≡ 7
only-seven-after None b h n e = only-seven b n e
only-seven-after (Some k) b h n e = h n e

pub left-unmade : (h : Handset) (m : Message) (e : CommitError) → Left h m e → Unmade (make_refusal h.member.0 h.epoch.0 (the_tree h.tree) m) e
left-unmade h m (Refused x) l = ap (λ (o : Option ℕ). or_next o (first_of (not (countable m)) 7 None)) l
left-unmade h m OutOfMemory l = only-seven-after (message_refusal h.member.0 h.epoch.0 (the_tree h.tree) m) (not (countable m)) l

not-so : (b : Bool) → (b ≡ true → ⊥) → b ≡ false
not-so true never = absurd (never refl)
not-so false never = refl

-- a message that is not refused, and no memory
free-unmade : (h : Handset) (m : Message) → message_refusal h.member.0 h.epoch.0 (the_tree h.tree) m ≡ None →
    (n : ℕ) → make_refusal h.member.0 h.epoch.0 (the_tree h.tree) m ≡ Some n → n ≡ 7
free-unmade h m free n e =
    only-seven (not (countable m)) n (ap (λ (o : Option ℕ). or_next o (first_of (not (countable m)) 7 None)) (sym free) ∙ e)

-- a message that can't be counted, or no memory
pub unwritten-unmade : (h : Handset) (m : Message) → message_refusal h.member.0 h.epoch.0 (the_tree h.tree) m ≡ None → (countable m ≡ true → Fits m) →
    (before after : List ℕ) (e : WriteError) → Sent m before after (Err e) → Unmade (make_refusal h.member.0 h.epoch.0 (the_tree h.tree) m) (unwritten e)
unwritten-unmade h m free fits before after write-error.DoesNotFit s =
    ap₂ (λ (o : Option ℕ) (b : Bool). or_next o (first_of (not b) 7 None)) free (not-so (countable m) (λ t. s.1 (fits t)))
unwritten-unmade h m free fits before after write-error.OutOfMemory s = free-unmade h m free

-- A VAULT'S ANSWERS.
abbrev after_counts : Tree PublicKey → Message → Option ℕ
after_counts t m = first_of (not (right_counts t m)) 7 None

-- what the commit is refused for comes first
pub refused-first : (w e : ℕ) (t : Tree PublicKey) (a : MessageChange) (halves : List PublicKey) (boxes : List ℕ) (n : ℕ) →
    refusal e (commit_by w a) t ≡ Some n → compose_refusal w e t a halves boxes ≡ Some n
refused-first w e t a [] boxes n r = ap (λ (o : Option ℕ). or_next o (Some 7)) r
refused-first w e t a (leaf ∷ nodes) boxes n r =
    let m : Message = message_by w e a leaf nodes boxes in
    ap (λ (o : Option ℕ). or_next o (first_of (not (countable m)) 7 None)) (own-passed e t m refl ∙ ap (λ (o : Option ℕ). or_next o (after_counts t m)) r)

seven : (n : ℕ) → ◌≡◌ {A = Option ℕ} (Some 7) (Some n) → n ≡ 7
seven n e = let z : 7 ≡ n = cc in sym z

-- and after that there is only 7
pub then-seven : (w e : ℕ) (t : Tree PublicKey) (a : MessageChange) (halves : List PublicKey) (boxes : List ℕ) →
    refusal e (commit_by w a) t ≡ None → (n : ℕ) → compose_refusal w e t a halves boxes ≡ Some n → n ≡ 7
then-seven w e t a [] boxes r n q = seven n (ap (λ (o : Option ℕ). or_next o (Some 7)) (sym r) ∙ q)
then-seven w e t a (leaf ∷ nodes) boxes r n q =
    let m : Message = message_by w e a leaf nodes boxes in
    only-seven-after (message_refusal w e t m) (not (countable m))
    (λ k f. only-seven (not (right_counts t m)) k (sym (own-passed e t m refl ∙ ap (λ (o : Option ℕ). or_next o (after_counts t m)) r) ∙ f)) n q

-- no leaf key
pub no-leaf : (w e : ℕ) (t : Tree PublicKey) (a : MessageChange) (halves : List PublicKey) (boxes : List ℕ) →
    length halves ≡ 0 → refusal e (commit_by w a) t ≡ None → compose_refusal w e t a halves boxes ≡ Some 7
no-leaf w e t a [] boxes l r = ap (λ (o : Option ℕ). or_next o (Some 7)) r
no-leaf w e t a (leaf ∷ nodes) boxes l r = absurd (omega arith)

-- the message that was made is that of the answers
same-made : {V : Type 0} (items : V → List ℕ) (h : Handset) (a : MessageChange) (boxes : List ℕ) (leaf : PublicKey) (nodes : List PublicKey) (m : Message) (r : Result V CommitError) →
    m ≡ message_by h.member.0 h.epoch.0 a leaf nodes boxes → Makes items h m r → Composes items h a (leaf ∷ nodes) boxes r
same-made items h a boxes leaf nodes m (Ok v) s q =
    record { leaf = leaf; nodes = nodes; given = refl; made = subst (λ (x : Message). Made h x (items v)) s q }
same-made items h a boxes leaf nodes m (Err x) s q =
    subst (λ (o : Option ℕ). Unmade o x) (ap (make_refusal h.member.0 h.epoch.0 (the_tree h.tree)) s) q

-- a message of these parts
abbrev pub message_at : ℕ → ℕ → MessageChange → PublicKey → List ℕ → List ℕ → Message
message_at w e a leaf keys boxes = record { epoch = e; committer = w; change = a; leaf_key = leaf; node_keys = keys; boxes = boxes }

pub made-composed : {V : Type 0} (items : V → List ℕ) (h : Handset) (a : MessageChange) (halves : List PublicKey) (boxes keys : List ℕ) (leaf : PublicKey) (nodes : List PublicKey) (r : Result V CommitError) →
    halves ≡ leaf ∷ nodes → keys ≡ joined_keys nodes → Makes items h (message_at h.member.0 (h.epoch.0 + 1) a leaf keys boxes) r → Composes items h a halves boxes r
made-composed items h a halves boxes keys leaf nodes r e f q =
    subst (λ (hs : List PublicKey). Composes items h a hs boxes r) (sym e)
    (same-made items h a boxes leaf nodes _ r (ap₂ (λ (i : ℕ) (ks : List ℕ). message_at h.member.0 i a leaf ks boxes) (add-one h.epoch.0) f) q)

-- WHOM IT CONCERNS takes what was made.
no-stranger : (seat new : Bool) → T (seat || new) → (not seat && not new) ≡ false
no-stranger true new h = refl
no-stranger false true h = refl
no-stranger false false h = elim h [ ]

pub composed-is-taken : ComposedIsTaken
composed-is-taken maker h after a halves boxes bs r c s n concerned q =
    let m : Message = message_by maker.member.0 maker.epoch.0 a c.leaf c.nodes boxes in
    let free : message_refusal h.member.0 h.epoch.0 (the_tree h.tree) m ≡ None =
    passed h.member.0 h.epoch.0 (the_tree h.tree) m (ap suc (sym n)) (no-stranger (seated h.member.0 (the_tree h.tree)) (is_newcomer h.member.0 a) concerned)
    ∙ ap₂ (λ (e : ℕ) (t : Tree PublicKey). or_next (refusal e (commit_asked m) t) (after_counts t m)) n s
    ∙ sym (own-passed maker.epoch.0 (the_tree maker.tree) m refl)
    ∙ c.made.allowed in
    took h after m c.made.fits free (Taken h m) (λ t. t) r (subst (λ (l : List ℕ). TakesBytes h l after r) c.made.bytes q)

-- A MESSAGE THAT FITS has counts that can be written.
whole_parts : (size limit : ℕ) (bs : List ℕ) → Whole size limit bs → has_parts size limit bs ≡ true
whole_parts size limit bs w =
    and_from (eqb (length bs) (size * (length bs / size))) (ltb (length bs / size) limit)
    (eq-eqb (length bs) (size * (length bs / size)) w.whole) (lt-ltb (length bs / size) limit w.few)

pub fits-countable : (m : Message) → Fits m → countable m ≡ true
fits-countable m f =
    and_from (has_parts 32 256 m.node_keys) (has_parts 48 65536 m.boxes) (whole_parts 32 256 m.node_keys f.node_keys) (whole_parts 48 65536 m.boxes f.boxes)

-- so where its maker's handset takes it, it is made
pub free-made : (w e : ℕ) (t : Tree PublicKey) (m : Message) → Fits m → message_refusal w e t m ≡ None → make_refusal w e t m ≡ None
free-made w e t m f free =
    ap₂ (λ (o : Option ℕ) (b : Bool). or_next o (first_of (not b) 7 None)) free (fits-countable m f)

-- and it is the one of those answers
pub one-made : (h : Handset) (a : MessageChange) (leaf : PublicKey) (nodes : List PublicKey) (boxes bs : List ℕ) →
    Composed h a (leaf ∷ nodes) boxes bs → bs ≡ encode (message_by h.member.0 h.epoch.0 a leaf nodes boxes)
one-made h a leaf nodes boxes bs c =
    let given : leaf ∷ nodes ≡ c.leaf ∷ c.nodes = c.given in
    let first : leaf ≡ c.leaf = cc in
    let rest : nodes ≡ c.nodes = cc in
    c.made.bytes
    ∙ ap₂ (λ (k : PublicKey) (ks : List PublicKey). encode (message_by h.member.0 h.epoch.0 a k ks boxes)) (sym first) (sym rest)
