use Rattle.std.proofs.Common.{◌≡◌, map, drop, string_bytes}
use Rattle.program_words.specs.Words.{is_given}
use Rattle.program_words.proofs.well_formed.is_given.Given as goal

abbrev pub invariant-loop-word : goal.invariant-loop-word
invariant-loop-word l = is_given l.choice (map string_bytes (drop l.word-index l.words)) ≡ is_given l.choice (map string_bytes l.words)
