-- Which kind of caller is answered first.
use Rattle.std.specs.Prelude.{Option, Some, None}
use Rattle.sockets.specs.declared.queue.Kind.{Kind}
use Rattle.sockets.specs.declared.queue.Kind.TheVariants as kinds
use Rattle.sockets.specs.declared.queue.Caller.{Caller}
use Rattle.sockets.specs.declared.queue.Caller.TheVariants as callers

-- the kind of a caller
abbrev pub kind_of : Caller → Kind
kind_of (callers.Client stream) = kinds.Client
kind_of (callers.Operator stream) = kinds.Operator

-- the other kind
abbrev pub other_than : Kind → Kind
other_than kinds.Client = kinds.Operator
other_than kinds.Operator = kinds.Client

-- whose turn it is after this caller was accepted: that of the other kind, and unchanged if nobody was accepted
abbrev pub turn_after : Kind → Option Caller → Kind
turn_after turn None = turn
turn_after turn (Some caller) = other_than (kind_of caller)
