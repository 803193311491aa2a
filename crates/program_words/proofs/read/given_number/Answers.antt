use Rattle.std.specs.Str.Parse.{ParsesUnsigned, ExplainsUnsignedError, HasUnsignedDigitsIfOk}
use Rattle.program_words.proofs.Numbers.{reads_one}
use Rattle.program_words.proofs.read.given_number.Goals as goal

pub returns-clause-number : goal.returns-clause-number
returns-clause-number c = λ ends text at number small.
    reads_one (λ bs r. ParsesUnsigned 32 10 bs r × ExplainsUnsignedError 10 bs r × HasUnsignedDigitsIfOk bs r) 32 ends text c.get_one.result number small
    (λ t x g. g.0) (c.get_one.ensures.value text at)
