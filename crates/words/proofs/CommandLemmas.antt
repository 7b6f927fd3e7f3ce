-- Commands that equal one another, and that clap's clauses are exact of both commands.
use Rattle.std.proofs.Common.{◌≡◌, ◌≢◌, ◌&&◌, Bool, ap, refl, true, false, List, [], ◌∷◌, inl, inr}
use Rattle.std.proofs.Math.Path.{subst}
use Rattle.clap.specs.Words.{App, HasKind, Kinds, Text, is_simple, is_simple_and_free, kind_of, with_rule}
use Rattle.clap.specs.declared.parser.matches.ArgMatches.{ArgMatches}
use Rattle.clap.specs.declared.error.Error.{Error}
use Rattle.clap.specs.declared.error.kind.ErrorKind.TheVariants as kind
use Rattle.clap.proofs.OnLiterals.{clap_on_literals}
use Rattle.clap.proofs.WalkLemmas.{both}
use Rattle.words.specs.Commands.{TakenAs, is_faultless, option_rule, positional_rule, replay_command, run_command}

pub one_more : {a b : App} (name : Text) → a ≡ b → with_rule a (option_rule name) ≡ with_rule b (option_rule name)
one_more name e = ap (λ (a : App). with_rule a (option_rule name)) e

pub one_place_more : {a b : App} (name : Text) → a ≡ b → with_rule a (positional_rule name) ≡ with_rule b (positional_rule name)
one_place_more name e = ap (λ (a : App). with_rule a (positional_rule name)) e

pub run_is_simple : is_simple_and_free run_command ≡ true
unfolding clap_on_literals run_command
run_is_simple = refl

pub replay_is_simple : is_simple_and_free replay_command ≡ true
unfolding clap_on_literals replay_command
replay_is_simple = refl

pub simple_too : (command : App) → is_simple_and_free command ≡ true → is_simple command ≡ true
simple_too command h = (both (is_simple command) _ h).0

pub faultless : (kinds : Kinds) → kinds ≡ [] → is_faultless kinds ≡ true
faultless kinds e = ap is_faultless e

-- an error that is not want of memory has one of the kinds
pub faulty : (kinds : Kinds) (error : Error) → HasKind kinds error → kind_of error ≢ kind.OutOfMemory → is_faultless kinds ≡ false
faulty [] error (inl oom) not_memory = absurd (not_memory oom)
faulty [] error (inr bad) not_memory = absurd bad
faulty (k ∷ ks) error h not_memory = refl

pub taken_by : {a b : App} (words : List Text) (matches : ArgMatches) → a ≡ b → TakenAs a words matches → TakenAs b words matches
taken_by words matches e taken = subst (λ (command : App). TakenAs command words matches) e taken

pub both_true : (a b : Bool) → a ≡ true → b ≡ true → (a && b) ≡ true
both_true true b _ h = h
both_true false b h _ = h

pub first_false : (a b : Bool) → a ≡ false → (a && b) ≡ false
first_false true b h = absurd (cc)
first_false false b _ = refl

pub second_false : (a b : Bool) → b ≡ false → (a && b) ≡ false
second_false true b h = h
second_false false b _ = refl
