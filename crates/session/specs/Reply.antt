-- What `handset` prints for a message.
-- `orders_text`: orders, one to a line; `refusal_text`: a refusal's number on its line; `Told`, `TurnedAway`: the two replies; `Replied`: the reply, and the handset after it.
-- Assumes nothing.
use Rattle.std.specs.Prelude.{◌≡◌, ℕ, true, ◌⊎◌, List, [], ◌∷◌, ◌++◌, map, is_ok, Result}
use Rattle.ratchet_tree.specs.declared.member.PublicKey.{PublicKey}
use Rattle.commits.specs.Refusals.{number_of}
use Rattle.commits.specs.declared.error.CommitError.TheVariants.{Refused}
use Rattle.commits.specs.declared.refusal.Refusal.{Refusal}
use Rattle.messages.specs.Message.{Message, Fits, encode}
use Rattle.messages.specs.Received.{Declined}
use Rattle.messages.specs.Take.{Taken}
use Rattle.messages.specs.declared.handset.Handset.{Handset}
use Rattle.orders.specs.Answered.{orders_for}
use Rattle.scripts.specs.Decimal.{decimal}
use Rattle.vault_theory.specs.Capped.{cap_order}
use Rattle.vault_theory.specs.Order.{Order}
use Rattle.session.specs.Text.{order_text}

-- each order with a newline behind it
unfoldable pub orders_text : List (Order PublicKey) → List ℕ
orders_text [] = []
orders_text (o ∷ os) = (order_text o ++ 10 ∷ []) ++ orders_text os

abbrev pub refusal_text : ℕ → List ℕ
refusal_text n = decimal n ++ 10 ∷ []

-- the bytes are a message's, the handset has taken it, and these are the orders for it; then an empty line
pub record Told (h : Handset) (b : List ℕ) (g : Handset) (printed : List ℕ) : Type 0 where
  pub message : Message
  pub fits : Fits message
  pub bytes : b ≡ encode message
  pub taken : Taken h message g
  pub text : printed ≡ orders_text (map cap_order (orders_for h message)) ++ 10 ∷ []

-- the handset is as it was, and this is the number that the one verdict on the bytes gives; then an empty line
pub record TurnedAway (h : Handset) (b : List ℕ) (g : Handset) (printed : List ℕ) : Type 0 where
  pub refusal : Refusal
  pub same : g ≡ h
  pub declined : Declined h b (Refused refusal)
  pub text : printed ≡ refusal_text (number_of refusal) ++ 10 ∷ []

pub record Reply (h : Handset) (b : List ℕ) (g : Handset) (before after : List ℕ) : Type 0 where
  pub printed : List ℕ
  pub appended : after ≡ before ++ printed
  pub reply : Told h b g printed ⊎ TurnedAway h b g printed

-- nothing is said where there was no memory
abbrev pub Replied : {T E : Type 0} → Handset → List ℕ → Handset → List ℕ → List ℕ → Result T E → Type 0
Replied h b g before after r = is_ok r ≡ true → Reply h b g before after
