-- The orders of each role, from what a message's commit is seen as.
-- Assumes nothing.
use Rattle.std.proofs.Common.{◌≡◌, ℕ, List, map, IfOk, Ok, Err, vec_items, Result, Vec, refl, ap, ◌∙◌, ap₂}
use Rattle.std.specs.declared.alloc.AllocError.{AllocError}
use Rattle.std.specs.declared.alloc.Global.{Global}
use Rattle.vault_theory.specs.Capped.{cap_order}
use Rattle.vault_theory.specs.Order as theory
use Rattle.ratchet_tree.specs.declared.member.PublicKey.{PublicKey}
use Rattle.orders.specs.Order.{order_of}
use Rattle.orders.specs.declared.order.Order.{Order}
use Rattle.commits.specs.declared.error.CommitError.{CommitError}
use Rattle.ratchet_tree.specs.Parts.{part_tree}
use Rattle.ratchet_tree.specs.Trees.{the_tree}
use Rattle.messages.specs.Message.{Message}
use Rattle.messages.specs.Take.{change_asked, commit_asked, fresh_in, fresh_key}
use Rattle.messages.specs.declared.message.MessageChange.{MessageChange}
use Rattle.messages.specs.declared.message.MessageChange.TheVariants.{Renew, Remove, Add}
use Rattle.theory.specs.Group.{readied}
use Rattle.theory.specs.Tree.{Tree}
use Rattle.messages.specs.declared.handset.Handset.{Handset}
use Rattle.vault_theory.specs.Orders.{orders_of, welcomed}
use Rattle.orders.specs.Answered.{AnswersOr, Orders, Sees, Welcomes, orders_for}
use Rattle.orders.specs.Roles.{init_in, init_keys, orders_on, welcomed_on}
use Rattle.orders.specs.declared.view.CommitView.{CommitView}

-- a list that is shown another way
pub listed-as : (r : Result (Vec Order Global) AllocError) {x y : List (theory.Order PublicKey)} → x ≡ y →
    IfOk r (λ v. map order_of (vec_items v) ≡ map cap_order x) → IfOk r (λ v. map order_of (vec_items v) ≡ map cap_order y)
listed-as (Ok v) e h = h ∙ ap (map cap_order) e
listed-as (Err u) e h = tt

pub orders-answered : (h : Handset) (m : Message) (r : Result (Vec Order Global) CommitError) → AnswersOr h m (orders_for h m) r → Orders h m r
orders-answered h m (Ok v) a = a
orders-answered h m (Err e) a = a

pub welcome-answered : (h : Handset) (m : Message) (r : Result (Vec Order Global) CommitError) →
    AnswersOr h m (welcomed h.member.0 (commit_asked m) (fresh_key m) (the_tree h.tree)) r → Welcomes h m r
welcome-answered h m (Ok v) a = a
welcome-answered h m (Err e) a = a

by-change : (w c : ℕ) (own : PublicKey) (x : MessageChange) (t : Tree PublicKey) →
    orders_on w c (change_asked x) (init_keys x) t (readied (change_asked x) (fresh_in own x) t)
    ≡ orders_of w (record { committer = c; change = change_asked x }) (fresh_in own x) (init_in own x) t
by-change w c own Renew t = refl
by-change w c own (Remove m) t = refl
by-change w c own (Add m k i) t = refl

pub orders-seen : (h : Handset) (m : Message) (v : CommitView) → Sees h m v →
    orders_on h.member.0 v.committer.0 (change_asked v.change) (init_keys v.change) (part_tree v.before) (part_tree v.readied) ≡ orders_for h m
orders-seen h m v s =
    ap (λ c. orders_on h.member.0 c (change_asked v.change) (init_keys v.change) (part_tree v.before) (part_tree v.readied)) s.committer
    ∙ ap (λ (x : MessageChange). orders_on h.member.0 m.committer (change_asked x) (init_keys x) (part_tree v.before) (part_tree v.readied)) s.change
    ∙ ap₂ (λ t u. orders_on h.member.0 m.committer (change_asked m.change) (init_keys m.change) t u) s.before s.readied
    ∙ by-change h.member.0 m.committer m.leaf_key m.change (the_tree h.tree)

pub welcome-seen : (h : Handset) (m : Message) (v : CommitView) → Sees h m v →
    welcomed_on h.member.0 v.committer.0 (part_tree v.readied) ≡ welcomed h.member.0 (commit_asked m) (fresh_key m) (the_tree h.tree)
welcome-seen h m v s = ap₂ (λ c u. welcomed_on h.member.0 c u) s.committer s.readied
