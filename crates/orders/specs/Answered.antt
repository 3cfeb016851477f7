-- What a handset answers to a message: the orders to its vault.
-- `orders_for`: the orders of the handset's member; `Orders`, `Welcomes`: those orders, or why there are none; `Commits`: the orders of a committer before there is a message;
-- `Sees`: what the orders for a message are worked out from; `Responds`: the orders for a letter of bytes, and the handset after it.
-- Assumes nothing.
use Rattle.std.specs.Prelude.{◌≡◌, ℕ, List, map, None, Ok, Err, vec_items, Result, Vec}
use Rattle.std.specs.declared.alloc.Global.{Global}
use Rattle.theory.specs.Group.{Commit, readied, refusal}
use Rattle.vault_theory.specs.Order as theory
use Rattle.vault_theory.specs.Orders.{committing, orders_of, welcomed}
use Rattle.ratchet_tree.specs.Parts.{part_tree}
use Rattle.ratchet_tree.specs.Trees.{the_tree}
use Rattle.ratchet_tree.specs.declared.member.PublicKey.{PublicKey}
use Rattle.commits.specs.Apply.{Stopped}
use Rattle.commits.specs.declared.error.CommitError.{CommitError}
use Rattle.messages.specs.Message.{Message, Fits, encode}
use Rattle.messages.specs.Received.{Declined}
use Rattle.messages.specs.Take.{Left, Taken, change_asked, commit_asked, fresh_in, fresh_key, message_refusal}
use Rattle.messages.specs.declared.handset.Handset.{Handset}
use Rattle.messages.specs.declared.message.MessageChange.{MessageChange}
use Rattle.vault_theory.specs.Capped.{cap_order}
use Rattle.orders.specs.Order.{order_of}
use Rattle.orders.specs.Roles.{init_in}
use Rattle.orders.specs.declared.order.Order.{Order}
use Rattle.orders.specs.declared.view.CommitView.{CommitView}

-- the orders of the handset's member for the commit of a message
abbrev pub orders_for : Handset → Message → List (theory.Order PublicKey)
orders_for h m = orders_of h.member.0 (commit_asked m) (fresh_key m) (init_in m.leaf_key m.change) (the_tree h.tree)

-- the commit of a message, with the handset's tree before it and with what is asked
pub record Sees (h : Handset) (m : Message) (v : CommitView) : Type 0 where
  pub committer : v.committer.0 ≡ (commit_asked m).committer
  pub change : v.change ≡ m.change
  pub before : part_tree v.before ≡ the_tree h.tree
  pub readied : part_tree v.readied ≡ readied (commit_asked m).change (fresh_key m) (the_tree h.tree)

-- a handset that takes the message gives these orders
pub record Answers (h : Handset) (m : Message) (more : List (theory.Order PublicKey)) (v : List Order) : Type 0 where
  pub allowed : message_refusal h.member.0 h.epoch.0 (the_tree h.tree) m ≡ None
  pub orders : map order_of v ≡ map cap_order more

-- those orders, or why the handset does not take the message
abbrev pub AnswersOr : Handset → Message → List (theory.Order PublicKey) → Result (Vec Order Global) CommitError → Type 0
AnswersOr h m more (Ok v) = Answers h m more (vec_items v)
AnswersOr h m more (Err e) = Left h m e

abbrev pub Orders : Handset → Message → Result (Vec Order Global) CommitError → Type 0
Orders h m (Ok v) = Answers h m (orders_for h m) (vec_items v)
Orders h m (Err e) = Left h m e

-- the same for a newcomer that has drawn its keys already
abbrev pub Welcomes : Handset → Message → Result (Vec Order Global) CommitError → Type 0
Welcomes h m (Ok v) = Answers h m (welcomed h.member.0 (commit_asked m) (fresh_key m) (the_tree h.tree)) (vec_items v)
Welcomes h m (Err e) = Left h m e

-- the commit of a handset's own member
abbrev pub own_commit : Handset → MessageChange → Commit
own_commit h x = record { committer = h.member.0; change = change_asked x }

-- the handset's member may make the commit, and gives these orders; whatever key stands in where nobody comes
pub record Commissioned (h : Handset) (x : MessageChange) (v : List Order) : Type 0 where
  pub allowed : refusal h.epoch.0 (own_commit h x) (the_tree h.tree) ≡ None
  pub orders : (own : PublicKey) → map order_of v ≡ committing (own_commit h x) (fresh_in own x) (init_in own x) (the_tree h.tree)

abbrev pub Commits : Handset → MessageChange → Result (Vec Order Global) CommitError → Type 0
Commits h x (Ok v) = Commissioned h x (vec_items v)
Commits h x (Err e) = Stopped h.epoch.0 (own_commit h x) (the_tree h.tree) e

-- the bytes are those of a message, which the handset takes, and the orders are those for it from the handset before
pub record Responded (h : Handset) (b : List ℕ) (g : Handset) (v : List Order) : Type 0 where
  pub message : Message
  pub fits : Fits message
  pub bytes : b ≡ encode message
  pub taken : Taken h message g
  pub orders : map order_of v ≡ map cap_order (orders_for h message)

abbrev pub Responds : Handset → List ℕ → Handset → Result (Vec Order Global) CommitError → Type 0
Responds h b g (Ok v) = Responded h b g (vec_items v)
Responds h b g (Err e) = (g ≡ h) × Declined h b e
