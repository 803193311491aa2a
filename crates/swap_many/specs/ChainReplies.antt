-- What a chain replies where a world is told of a call.
use Rattle.std.specs.Prelude.{Option, Some, None, Result, Ok, Err}
use Rattle.swap_world.specs.declared.call_outcome.Told.{Told}
use Rattle.swap_world.specs.declared.call_outcome.Told.TheVariants.{Nothing, Passed, Replied}
use Rattle.swap_many.specs.declared.many_reply.ManyReply.{ManyReply}
use Rattle.swap_many.specs.declared.many_reply.ManyReply.TheVariants.{Plain, Swept}

abbrev pub reply_told : Told → Option ManyReply
reply_told Nothing = None
reply_told Passed = Some Swept
reply_told (Replied r) = Some (Plain r)

abbrev pub told_result : {E : Type 0} → Result Told E → Result (Option ManyReply) E
told_result (Ok x) = Ok (reply_told x)
told_result (Err e) = Err e
