-- The two replies.
-- Assumes nothing.
use Rattle.std.proofs.Common.{◌≡◌, ℕ, List, [], ◌∷◌, ◌++◌, map, refl, ap, ◌∙◌, append_assoc, inl, inr}
use Rattle.commits.specs.Refusals.{number_of}
use Rattle.commits.specs.declared.error.CommitError.TheVariants.{Refused}
use Rattle.commits.specs.declared.refusal.Refusal.{Refusal}
use Rattle.messages.specs.Received.{Declined}
use Rattle.messages.specs.declared.handset.Handset.{Handset}
use Rattle.orders.specs.Answered.{Responded, orders_for}
use Rattle.orders.specs.Order.{order_of}
use Rattle.orders.specs.declared.order.Order.{Order}
use Rattle.vault_theory.specs.Capped.{cap_order}
use Rattle.session.specs.Reply.{Reply, orders_text, refusal_text}

-- a newline behind what was appended
pub ended : (a x b c d : List ℕ) → d ≡ c ++ 10 ∷ [] → c ≡ b → b ≡ a ++ x → d ≡ a ++ (x ++ 10 ∷ [])
ended a x b c d e f g = e ∙ ap (λ l. l ++ 10 ∷ []) (f ∙ g) ∙ append_assoc a x (10 ∷ [])

pub told :
    (h : Handset) (b : List ℕ) (g : Handset) (v items : List Order) (before after : List ℕ) → Responded h b g v → items ≡ v →
    after ≡ before ++ (orders_text (map order_of items) ++ 10 ∷ []) → Reply h b g before after
told h b g v items before after r is e =
    record {
      printed = orders_text (map cap_order (orders_for h r.message)) ++ 10 ∷ [];
      appended =
          e ∙ ap (λ l. before ++ (orders_text (map order_of l) ++ 10 ∷ [])) is ∙ ap (λ os. before ++ (orders_text os ++ 10 ∷ [])) r.orders;
      reply = inl (record { message = r.message; fits = r.fits; bytes = r.bytes; taken = r.taken; text = refl });
    }

pub turned-away :
    (h : Handset) (b : List ℕ) (g : Handset) (x : Refusal) (before after : List ℕ) → g ≡ h → Declined h b (Refused x) →
    after ≡ before ++ (refusal_text (number_of x) ++ 10 ∷ []) → Reply h b g before after
turned-away h b g x before after same d e =
    record {
      printed = refusal_text (number_of x) ++ 10 ∷ [];
      appended = e;
      reply = inr (record { refusal = x; same = same; declined = d; text = refl });
    }
