-- Orders, line by line.
-- Assumes nothing.
use Rattle.std.proofs.Common.{◌≡◌, ℕ, ◌+◌, ◌<◌, List, [], ◌∷◌, ◌++◌, map, length, get_or, take, sym, refl, ap, ◌∙◌, append_assoc}
use Rattle.std.proofs.lemmas.List.{take_more, append-nil, map-append}
use Rattle.ratchet_tree.specs.declared.member.PublicKey.{PublicKey}
use Rattle.orders.specs.Order.{order_of}
use Rattle.orders.specs.declared.order.Order.{Order}
use Rattle.vault_theory.specs.Order as theory
use Rattle.session.specs.Reply.{orders_text}
use Rattle.session.specs.Text.{order_text}

text-append : (os ps : List (theory.Order PublicKey)) → orders_text (os ++ ps) ≡ orders_text os ++ orders_text ps
unfolding orders_text
text-append [] ps = refl
text-append (o ∷ os) ps =
    ap (λ l. (order_text o ++ 10 ∷ []) ++ l) (text-append os ps) ∙ sym (append_assoc (order_text o ++ 10 ∷ []) (orders_text os) (orders_text ps))

text-one : (o : theory.Order PublicKey) → orders_text (o ∷ []) ≡ order_text o ++ 10 ∷ []
unfolding orders_text
text-one o = append-nil (order_text o ++ 10 ∷ [])

pub text-none : orders_text [] ≡ []
unfolding orders_text
text-none = refl

-- one order more
pub text-more :
    (os : List Order) (i : ℕ) (d : Order) → i < length os →
    orders_text (map order_of (take (i + 1) os)) ≡ orders_text (map order_of (take i os)) ++ (order_text (order_of (get_or os i d)) ++ 10 ∷ [])
text-more os i d h =
    ap (λ l. orders_text (map order_of l)) (take_more os i d h)
    ∙ ap orders_text (map-append order_of (take i os) (get_or os i d ∷ []))
    ∙ text-append (map order_of (take i os)) (order_of (get_or os i d) ∷ [])
    ∙ ap (λ l. orders_text (map order_of (take i os)) ++ l) (text-one (order_of (get_or os i d)))
