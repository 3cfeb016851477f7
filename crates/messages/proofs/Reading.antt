-- What is left of a message's bytes after each of its parts.
-- Assumes nothing.
use Rattle.std.proofs.Common.{◌≡◌, ℕ, List, [], ◌++◌, Ok, Err, Result, sym, refl, ap, ◌∙◌, ap₂}
use Rattle.std.proofs.lemmas.List.{append-nil}
use Rattle.ratchet_tree.specs.declared.member.PublicKey.{PublicKey}
use Rattle.wire.specs.Bytes.{be16, key_bytes, Half, Whole}
use Rattle.messages.specs.Message.{Message, Fits, Received, message_of, encode, ChangeOf, HeaderFits, header_bytes, head_bytes, change_keys, keys_bytes, boxes_bytes, kind_of, other_of, kind_asked, other_asked, FitsChange, FitsHead}
use Rattle.commits.specs.declared.refusal.Refusal.{Refusal}
use Rattle.messages.specs.declared.message.CommitMessage.{CommitMessage}
use Rattle.messages.specs.declared.message.Header.{Header}
use Rattle.messages.specs.declared.message.MessageChange.{MessageChange}
use Rattle.messages.specs.declared.message.MessageChange.TheVariants.{Renew, Remove, Add}
use Rattle.commits.specs.declared.change.Change.{Change}
use Rattle.commits.specs.declared.change.Change.TheVariants as change
use Rattle.wire.proofs.Peeling.{peel-key, peel-run, peel-count, peel-16, divides-32, divides-48, one_byte}
use Rattle.messages.proofs.Peeling.{peel-head, peel-change}

-- what follows the leaf key, and what follows the change
unfoldable pub after_key : Message → List ℕ
after_key m = keys_bytes m.node_keys ++ boxes_bytes m.boxes

unfoldable pub after_change : Message → List ℕ
after_change m = key_bytes m.leaf_key ++ after_key m

-- a part that fits, and the bytes that it stands at the front of
abbrev pub Part : {X : Type 0} → (X → Type 0) → (X → List ℕ) → List ℕ → X → List ℕ → Type 0
Part F enc b x rest = F x × (b ≡ enc x ++ rest)

pub record Headed (h : Header) (r : List ℕ) (m : Message) : Type 0 where
  pub epoch : h.epoch.0 ≡ m.epoch
  pub committer : h.committer.0 ≡ m.committer
  pub change : ChangeOf (kind_asked h.change) (other_asked h.change) m.change
  pub rest : r ≡ change_keys m.change ++ after_change m

module _ (b : List ℕ) (m : Message) (f : Fits m) (e : b ≡ encode m) where
  pub at_head : (h : Header) (r : List ℕ) → Part HeaderFits header_bytes b h r → Headed h r m
  unfolding encode after_change after_key
  at_head h r p =
      let q = peel-head h.epoch.0 (kind_asked h.change) h.committer.0 (other_asked h.change) m.epoch (kind_of m.change) m.committer (other_of m.change) r
      (change_keys m.change ++ after_change m) p.0 f.head (sym p.1 ∙ e) in
      record { epoch = q.0; committer = q.2; change = record { kind = sym q.1; other = sym q.3; fits = f.change }; rest = q.4 }

  -- what is left when the parts before have been read
  module _ (h : Header) (r : List ℕ) (p : Part HeaderFits header_bytes b h r) (c : MessageChange) (s : List ℕ) (q : Part (ChangeOf (kind_asked h.change) (other_asked h.change)) change_keys r c s) where
    pub past-change : s ≡ after_change m
    past-change =
        let at = at_head h r p in
        (peel-change c m.change (kind_asked h.change) (other_asked h.change) s (after_change m) q.0 at.change (sym q.1 ∙ at.rest)).1

    module _ (k : PublicKey) (t : List ℕ) (x : Part Half key_bytes s k t) where
      pub past-key : t ≡ after_key m
      unfolding after_change
      past-key = (peel-key k m.leaf_key t (after_key m) x.0 f.leaf_key (sym x.1 ∙ past-change)).1

      module _ (ks u : List ℕ) (y : Part (Whole 32 256) keys_bytes t ks u) where
        pub past-keys : u ≡ boxes_bytes m.boxes
        unfolding after_key
        past-keys = (peel-run 32 256 one_byte peel-count divides-32 ks m.node_keys u (boxes_bytes m.boxes) y.0 f.node_keys (sym y.1 ∙ past-key)).1

        module _ (bs v : List ℕ) (z : Part (Whole 48 65536) boxes_bytes u bs v) where
          pub past-boxes : v ≡ []
          past-boxes =
              (peel-run 48 65536 be16 peel-16 divides-48 bs m.boxes v [] z.0 f.boxes (sym z.1 ∙ past-keys ∙ sym (append-nil (boxes_bytes m.boxes)))).1

-- the header of a message, and the bytes behind it
abbrev asked_of : MessageChange → Change
asked_of Renew = change.Renew
asked_of (Remove m) = change.Remove m
asked_of (Add m k i) = change.Add m

pub head_of : Message → Header
head_of m = record { epoch = record { 0 = m.epoch }; committer = record { 0 = m.committer }; change = asked_of m.change }

same-head : (e w : ℕ) (c : MessageChange) (rest : List ℕ) → FitsHead e (kind_of c) w (other_of c) →
    FitsHead e (kind_asked (asked_of c)) w (other_asked (asked_of c)) × (head_bytes e (kind_of c) w (other_of c) ++ rest ≡ head_bytes e (kind_asked (asked_of c)) w (other_asked (asked_of c)) ++ rest)
same-head e w Renew rest f = (f, refl)
same-head e w (Remove m) rest f = (f, refl)
same-head e w (Add m k i) rest f = (f, refl)

own-change : (c : MessageChange) → FitsChange c → ChangeOf (kind_asked (asked_of c)) (other_asked (asked_of c)) c
own-change Renew f = record { kind = refl; other = refl; fits = f }
own-change (Remove m) f = record { kind = refl; other = refl; fits = f }
own-change (Add m k i) f = record { kind = refl; other = refl; fits = f }

pub head_first : (b : List ℕ) (m : Message) → Fits m → b ≡ encode m → Part HeaderFits header_bytes b (head_of m) (change_keys m.change ++ after_change m)
unfolding encode after_change after_key head_of
head_first b m f e = let p = same-head m.epoch m.committer m.change (change_keys m.change ++ after_change m) f.head in (p.0, e ∙ p.1)

-- the parts together
abbrev pub built : Header → MessageChange → PublicKey → List ℕ → List ℕ → Message
built h c k ks bs = record { epoch = h.epoch.0; committer = h.committer.0; change = c; leaf_key = k; node_keys = ks; boxes = bs }

pub all-parts : (b : List ℕ) (h : Header) (r : List ℕ) (c : MessageChange) (s : List ℕ) (k : PublicKey) (t ks u bs v : List ℕ) →
    Part HeaderFits header_bytes b h r → Part (ChangeOf (kind_asked h.change) (other_asked h.change)) change_keys r c s → Part Half key_bytes s k t →
    Part (Whole 32 256) keys_bytes t ks u → Part (Whole 48 65536) boxes_bytes u bs v → v ≡ [] → Fits (built h c k ks bs) × (b ≡ encode (built h c k ks bs))
unfolding encode
all-parts b h r c s k t ks u bs v p q x y z n =
    let kind : kind_of c ≡ kind_asked h.change = q.0.kind in
    let other : other_of c ≡ other_asked h.change = q.0.other in (
      record {
        head = record { epoch = p.0.epoch; kind = rw kind p.0.kind; committer = p.0.committer; other = rw other p.0.other };
        change = q.0.fits;
        leaf_key = x.0;
        node_keys = y.0;
        boxes = z.0;
      },
      p.1 ∙ ap₂ (λ (i j : ℕ). head_bytes h.epoch.0 i h.committer.0 j ++ r) (sym kind) (sym other)
          ∙ ap (λ (l : List ℕ). head_bytes h.epoch.0 (kind_of c) h.committer.0 (other_of c) ++ l)
          (q.1 ∙ ap (λ (l : List ℕ). change_keys c ++ l)
          (x.1 ∙ ap (λ (l : List ℕ). key_bytes k ++ l)
          (y.1 ∙ ap (λ (l : List ℕ). keys_bytes ks ++ l)
          (z.1 ∙ ap (λ (l : List ℕ). boxes_bytes bs ++ l) n ∙ append-nil (boxes_bytes bs))))),
    )

same_parts : {e e' w w' : ℕ} {c c' : MessageChange} {k k' : PublicKey} {ks ks' bs bs' : List ℕ} → e ≡ e' → w ≡ w' → c ≡ c' → k ≡ k' → ks ≡ ks' → bs ≡ bs' →
    ◌≡◌ {A = Message} (record { epoch = e; committer = w; change = c; leaf_key = k; node_keys = ks; boxes = bs }) (record { epoch = e'; committer = w'; change = c'; leaf_key = k'; node_keys = ks'; boxes = bs' })
same_parts p q r s t u = cc

-- two messages with the same bytes
pub one-reading : (m n : Message) → Fits m → Fits n → encode m ≡ encode n → m ≡ n
unfolding head_of after_change after_key
one-reading m n f g e =
    let at = at_head (encode m) n g e (head_of m) (change_keys m.change ++ after_change m) (head_first (encode m) m f refl) in
    let c = peel-change m.change n.change (kind_asked (asked_of m.change)) (other_asked (asked_of m.change)) (after_change m) (after_change n)
    (own-change m.change f.change) at.change at.rest in
    let k = peel-key m.leaf_key n.leaf_key (after_key m) (after_key n) f.leaf_key g.leaf_key c.1 in
    let ks = peel-run 32 256 one_byte peel-count divides-32 m.node_keys n.node_keys (boxes_bytes m.boxes) (boxes_bytes n.boxes) f.node_keys g.node_keys k.1 in
    let bs = peel-run 48 65536 be16 peel-16 divides-48 m.boxes n.boxes [] [] f.boxes g.boxes (append-nil (boxes_bytes m.boxes) ∙ ks.1 ∙ sym (append-nil (boxes_bytes n.boxes))) in
    same_parts at.epoch at.committer c.0 k.0 ks.0 bs.0

pub round_trip : (m : Message) (r : Result CommitMessage Refusal) → Fits m → Received (encode m) r → (x : CommitMessage) × (r ≡ Ok x) × (message_of x ≡ m)
round_trip m (Ok x) f q = (x, refl, sym (one-reading m (message_of x) f q.0 q.1))
round_trip m (Err x) f q = absurd (q.1 m f refl)
