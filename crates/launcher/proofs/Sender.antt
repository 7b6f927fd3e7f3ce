-- Whom an idle launcher serves is the sender of the request that it takes.
use Rattle.std.proofs.Common.{◌≡◌, Bool, true, false, cond, not, ◌&&◌, List, [], ◌∷◌, ◌++◌, Some, None, refl, sym, ap, subst, inl, inr}
use Rattle.std.specs.Prelude.{find, ◌==◌}
use Rattle.std.specs.Option.{option_map}
use Rattle.message.specs.Messages.{is_request, is_lua, held_of}
use Rattle.message.specs.declared.request.Message.{Message}
use Rattle.launcher.specs.declared.order.Order.{Order}
use Rattle.launcher.specs.declared.order.Order.TheVariants as order
use Rattle.launcher.specs.declared.desk.Role.TheVariants.{Served}
use Rattle.launcher.specs.declared.desk.Taken.{Taken}
use Rattle.launcher.specs.declared.desk.Reply.{Reply}
use Rattle.launcher.specs.declared.desk.Reply.TheVariants as reply
use Rattle.launcher.specs.declared.desk.AfterReply.TheVariants.{Rest}
use Rattle.launcher.specs.declared.desk.Doing.TheVariants.{Quiet, Seeking}
use Rattle.launcher.specs.Orders.{order_of}
use Rattle.launcher.specs.Rows.{Desk, without, is_served, does, answers, role_of, taken, heard_order, heard, when_found}
use Rattle.launcher.specs.Served.{NoneServed, Serving, is_serving}
use Rattle.launcher.specs.Laws.{launcher_sound, Serves}

find_last_head : (x : Taken) (ts : List Taken) (t : Taken) (b : Bool) → b ≡ false → find is_served (ts ++ t ∷ []) ≡ Some t → cond b (Some x) (find is_served (ts ++ t ∷ [])) ≡ Some t
find_last_head x ts t true e ih = absurd (cc)
find_last_head x ts t false e ih = ih

find_last_one : (t : Taken) (b : Bool) → b ≡ true → cond b (Some t) None ≡ Some t
find_last_one t true e = refl
find_last_one t false e = absurd (cc)

find_last : (ts : List Taken) (t : Taken) → NoneServed ts → is_served t ≡ true → find is_served (ts ++ t ∷ []) ≡ Some t
find_last [] t n e = find_last_one t (is_served t) e
find_last (x ∷ ts) t n e = find_last_head x ts t (is_served x) n.0 (find_last ts t n.1 e)

answers_it : (l : Desk) (r : Reply) (t : Taken) → find is_served l.requests ≡ Some t → Serves (answers l r) t.held
answers_it l r t e =
    subst (λ o. Serves (when_found o (λ t. does (record l { requests = without is_served l.requests }) (Seeking t.held r Rest)) (does l Quiet)) t.held) (sym e) (inl refl)

module _ (l : Desk) (m : Message) (n : NoneServed l.requests) (req : is_request m ≡ true) where
  abbrev one : Taken
  one = record { role = Served; held = held_of m }

  found_at : (b : Bool) → b ≡ true → find is_served (cond b (record l { requests = l.requests ++ one ∷ [] }) l).requests ≡ Some one
  found_at true e = find_last l.requests one n refl
  found_at false e = absurd (cc)

  found : find is_served (taken l m Served).requests ≡ Some one
  found = found_at (is_request m) req

  by_order : (o : Order) → role_of o ≡ Served → Serves (heard_order l m o) (held_of m)
  by_order (order.Launch name args) e = inr (ap (option_map (λ (t : Taken). t.held)) found)
  by_order order.LaunchOk e = absurd (cc)
  by_order order.Error e = absurd (cc)
  by_order (order.Remove h b) e = absurd (cc)
  by_order (order.Kill h) e = inr (ap (option_map (λ (t : Taken). t.held)) found)
  by_order order.List e = answers_it (taken l m Served) reply.Services one found
  by_order order.Other e = answers_it (taken l m Served) reply.Failed one found

left_true : (a b : Bool) → (a && b) ≡ true → a ≡ true
left_true true b e = refl
left_true false b e = absurd (cc)

pub sender_is_served : (l : Desk) (m : Message) → launcher_sound l → l.doing ≡ Quiet → is_request m ≡ true → role_of (order_of m.body) ≡ Served → Serves (heard l m) (held_of m)
sender_is_served l m sound idle req role =
    let n : NoneServed l.requests = subst (λ d. Serving (is_serving d) l.requests) idle sound in
    let lua = left_true (is_lua m.kind) (not (m.session.0 == 0)) req in
    subst (λ b. Serves (cond b (heard_order l m (order_of m.body)) (does l Quiet)) (held_of m)) (sym lua) (by_order l m n req (order_of m.body) role)
