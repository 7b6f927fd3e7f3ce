-- What a row makes of the state does not depend on the request that was answered before it.
use Rattle.std.proofs.Common.{◌≡◌, cond, List, [], ◌∷◌, Option, Some, None, Result, refl, sym, ap, subst, ◌∙◌, codes}
use Rattle.std.specs.Prelude.{is_some}
use Rattle.sk_types.specs.declared.memory.NoMemory.{NoMemory}
use Rattle.sk_types.specs.declared.number.Session.{Session}
use Rattle.message.specs.declared.request.Answer.{Answer}
use Rattle.message.specs.declared.request.Answer.TheVariants.{Found, Flag, Clock, Done}
use Rattle.session_table.specs.declared.words.ThreadNo.{ThreadNo}
use Rattle.session_table.specs.declared.words.Token.{Token}
use Rattle.session_table.specs.Table.{when_found, next_woken, after_wakeup, with_sleeper, sleeping}
use Rattle.service_library.specs.declared.words.Reason.{Reason}
use Rattle.service_library.specs.declared.words.Reason.TheVariants as reason
use Rattle.service_library.specs.declared.words.Doing.{Doing}
use Rattle.service_library.specs.declared.words.Doing.TheVariants.{Quiet, Sleeping}
use Rattle.service_library.specs.declared.words.LibStep.{LibStep}
use Rattle.service_library.specs.State.{Lib}
use Rattle.service_library.specs.Rows.{next, next_failed, next_fork, wakes, raises, sleeps, blocked_for, after_answer, Steps}

fork_doing : (l : Lib) (d : Doing) (ts : List ThreadNo) → next_fork (record l { doing = d }) ts ≡ next_fork l ts
fork_doing l d [] = refl
fork_doing l d (t ∷ ts) = refl

failed_doing : (l : Lib) (d : Doing) (ts : List ThreadNo) → next_failed (record l { doing = d }) ts ≡ next_failed l ts
failed_doing l d [] = fork_doing l d l.forks
failed_doing l d (t ∷ ts) = refl

next_doing : (l : Lib) (d : Doing) → next (record l { doing = d }) ≡ next l
next_doing l d = go (next_woken l.table)
  where
    after : Lib
    after = record l { table = after_wakeup l.table }

    go : (o : Option ThreadNo) → when_found o (wakes (record after { doing = d })) (next_failed (record after { doing = d }) after.failed) ≡ when_found o (wakes after) (next_failed after after.failed)
    go None = failed_doing after d after.failed
    go (Some t) = refl

sleeps_doing : (l : Lib) (d : Doing) (s : Session) (token : Token) (why : Reason) → sleeps (record l { doing = d }) s token why ≡ sleeps l s token why
sleeps_doing l d s token why =
    let m : Lib = blocked_for (record l { table = with_sleeper l.table token s l.running }) l.running why in
    ap (λ row. cond (is_some (sleeping l.table token)) (raises l (codes "token already used")) row) (next_doing m d)

answer_doing : (l : Lib) (d : Doing) (s : Session) (token : Token) (a : Answer) → after_answer (record l { doing = d }) (Sleeping s token) a ≡ after_answer l (Sleeping s token) a
answer_doing l d s token (Flag f) = sleeps_doing l d s token reason.Sleep
answer_doing l d s token Done = sleeps_doing l d s token reason.Sleep
answer_doing l d s token (Found f) = refl
answer_doing l d s token (Clock n) = refl

pub sleeping_row : (now : Lib) (s : Session) (token : Token) (a : Answer) (result : Result LibStep NoMemory) (new : Lib) → now.doing ≡ Sleeping s token → Steps result new (after_answer (record now { doing = Quiet }) (Sleeping s token) a) → Steps result new (after_answer now now.doing a)
sleeping_row now s token a result new e h =
    subst (λ row. Steps result new row) (answer_doing now Quiet s token a ∙ ap (λ d. after_answer now d a) (sym e)) h
