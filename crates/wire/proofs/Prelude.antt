-- The names from other modules and crates that the proofs of this crate share.
pub use Rattle.httparse.proofs.GrammarLemmas.{ReadsRequest-append}
pub use Rattle.httparse.specs.Grammar.{Field, HasNoRequest, IsField, IsRequestHead, LineEnd, MayBecomeRequest, NeverHasRequest, ReadsRequest, RequestHead, crlf, field_value, lf, print_end, print_field, print_request, skip_ows, trim_ows}
pub use Rattle.httparse.specs.Spans.{AreFieldsAt, IsHeaderWithin, IsRequestOf, IsRequestWithin, IsWithin, RequestExceeds, RequestOverflows, header_bytes, name_and_value, span_bytes}
pub use Rattle.httparse.specs.declared.spans.HeaderSpan.{HeaderSpan}
pub use Rattle.model.specs.Orders.{first}
pub use Rattle.model.specs.Stream.{BeginsBadly, BeginsWithHead, HasNoHead, IsHeadThen, NeverIsHead, field_limit, head_limit, hopeless, too_long, too_many_fields}
pub use Rattle.names.specs.Texts.{is_empty}
pub use Rattle.names.specs.declared.streams.Source.{Ghosts}
pub use Rattle.std.proofs.Common.{Bool, Err, IfErr, IfOk, IfSome, List, MatchOption, None, Ok, OnOk, Option, Result, Some, [], ap, append-nil, append_assoc, arith, codes, cond, count_by, decimal, drop, false, filter, find, inl, inr, length, length-append, length-drop, length-take, lit<, lit≤, map, nat_le, not, option_map, refl, reverse, rules, subst, suc, sym, take, true, zero, ℕ, ◌&&◌, ◌*◌, ◌++◌, ◌+◌, ◌-◌, ◌<◌, ◌==◌, ◌||◌, ◌∙◌, ◌∷◌, ◌≡◌, ◌≢◌, ◌≤◌}
pub use Rattle.std.proofs.KnownBytes.{Consumes-nil, Consumes-trans}
pub use Rattle.std.proofs.Math.Seq.{take-append-add}
pub use Rattle.std.proofs.lemmas.Bool.{and_parts, cases_lt, le-leb}
pub use Rattle.std.proofs.lemmas.Bool.Decides.{nat_tests}
pub use Rattle.std.proofs.lemmas.Iterator.Search.{any_from_yields_List}
pub use Rattle.std.proofs.lemmas.Iterator.Splits.{YieldsList-from_slice_split}
pub use Rattle.std.proofs.lemmas.List.{drop-drop, drop-take, drop_at, length-map, reverse-reverse, take-append-drop, take-append-le, take_all, take_at}
pub use Rattle.std.proofs.lemmas.List.Elements.{recursion_from_All}
pub use Rattle.std.specs.Char.{is_ascii_digit}
pub use Rattle.std.specs.Io.KnownBytes.{Appends, Consumes, IsAtEnd, prepend_known}
pub use Rattle.std.specs.List.{AllByRecursion, flat_map, list_all, list_any, slice_split}
pub use Rattle.wire.specs.Buffers.{front}
pub use Rattle.wire.specs.Connections.{HasHead, HasStopped, IsAt, IsStopped, Moves, Refuses, SameHead, repeated, waiting}
pub use Rattle.wire.specs.Cut.{Covers, IsCut}
pub use Rattle.wire.specs.Halts.{IsCutOf, MayGoOn}
pub use Rattle.wire.specs.declared.connection.Conn.{Conn}
pub use Rattle.wire.specs.declared.connection.Stop.{Stop}
pub use Rattle.wire.specs.declared.connection.Stop.TheVariants.{Device, End, Unread}
pub use Rattle.wire.specs.HeadRules.{rule_seen}
pub use Rattle.wire.specs.declared.rules.HeadRule.{HeadRule}
pub use Rattle.wire.specs.declared.rules.HeadRule.TheVariants.{H1}
