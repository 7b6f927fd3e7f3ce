-- The orders in which the lists of the table stand, and when an entry is the one that is asked for.
use Rattle.std.specs.Prelude.{Bool}
use Rattle.std.specs.declared.cmp.Ordering.{Ordering}
use Rattle.std.specs.Ordering.{nat_cmp, int_cmp, ordering_then}
use Rattle.std.specs.BTreeMap.{is_at}
use Rattle.sk_types.specs.declared.number.Session.{Session}
use Rattle.session_table.specs.declared.words.ThreadNo.{ThreadNo}
use Rattle.session_table.specs.declared.words.ResponseNo.{ResponseNo}
use Rattle.session_table.specs.declared.words.Token.{Token}

abbrev pub session_cmp : Session → Session → Ordering
session_cmp a b = nat_cmp a.0 b.0

abbrev pub thread_cmp : ThreadNo → ThreadNo → Ordering
thread_cmp a b = nat_cmp a.0 b.0

abbrev pub response_cmp : ResponseNo → ResponseNo → Ordering
response_cmp a b = nat_cmp a.0 b.0

-- by kind, and then by number
abbrev pub token_cmp : Token → Token → Ordering
token_cmp a b = ordering_then (nat_cmp a.kind b.kind) (int_cmp a.number b.number)

abbrev pub is_session : Session → Session → Bool
is_session s = is_at (session_cmp s)

abbrev pub is_thread : ThreadNo → ThreadNo → Bool
is_thread t = is_at (thread_cmp t)

abbrev pub is_response : ResponseNo → ResponseNo → Bool
is_response r = is_at (response_cmp r)

abbrev pub is_token : Token → Token → Bool
is_token k = is_at (token_cmp k)
