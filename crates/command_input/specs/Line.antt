-- The line that tells why an input was refused. Every number is in decimal.
use Rattle.std.specs.Prelude.{ℕ, List, [], ◌∷◌, codes, decimal}
use Rattle.swap_base.specs.Text.{joined, lines}
use Rattle.command_input.specs.Words.{party_name, reply_text}
use Rattle.command_input.specs.declared.reason.Reason.{Reason}
use Rattle.command_input.specs.declared.reason.Reason.TheVariants.{NotJson, Missing, WrongKind, UnknownField, BadName, Duplicate, Unknown, OverLimit, WrongHex}
use Rattle.command_input.specs.declared.reason.Reason.TheVariants.{NotAdjacent, ConformingCall, EventInRace, SelfArc, Parallel, NotStrong, ManyLeaders}
use Rattle.command_input.specs.declared.reason.Reason.TheVariants.{NotFeedback, BoundTooSmall, StartTooSoon, WrongTimelock, NoSeed, WrongWallet, BadLine, CutShort}
use Rattle.command_input.specs.declared.reason.Reason.TheVariants.{BadReply, TooManyLeaders, NoAccount, Overdrawn, NotConforming}
use Rattle.command_input.specs.Escaped.{escaped}

-- a word and a number
unfoldable pub numbered_word : List ℕ → ℕ → List ℕ
numbered_word word n = joined (word ∷ codes " " ∷ decimal n ∷ [])

-- a word and two numbers
unfoldable pub numbered_twice : List ℕ → ℕ → ℕ → List ℕ
numbered_twice word n m = joined (word ∷ codes " " ∷ decimal n ∷ codes " " ∷ decimal m ∷ [])

-- a word, the number of a line, and a text of the input
unfoldable pub lined : List ℕ → ℕ → List ℕ → List ℕ
lined word line text = joined (numbered_word word line ∷ codes " " ∷ escaped text ∷ [])

-- the name of party p; no text where the number is nobody's
abbrev pub escaped_name : List (List ℕ) → ℕ → List ℕ
escaped_name names p = escaped (party_name names p)

-- a further name of a list
abbrev pub comma_named : List (List ℕ) → ℕ → ℕ → List ℕ
comma_named names place p = joined (codes "," ∷ escaped_name names p ∷ [])

-- the names of the parties, joined by commas
unfoldable pub all_named : List (List ℕ) → List ℕ → List ℕ
all_named names [] = []
all_named names (p ∷ ps) = joined (escaped_name names p ∷ lines (comma_named names) 0 ps ∷ [])

-- a word and the name of a party
unfoldable pub of_party : List ℕ → List (List ℕ) → ℕ → List ℕ
of_party word names p = joined (word ∷ codes " " ∷ escaped_name names p ∷ [])

-- a word and the names of parties
unfoldable pub of_parties : List ℕ → List (List ℕ) → List ℕ → List ℕ
of_parties word names ps = joined (word ∷ codes " " ∷ all_named names ps ∷ [])

-- a reason's name and its fields
unfoldable pub reason_text : List (List ℕ) → Reason → List ℕ
reason_text names (NotJson line) = numbered_word (codes "NotJson") line
reason_text names (Missing line field) = lined (codes "Missing") line field
reason_text names (WrongKind line field) = lined (codes "WrongKind") line field
reason_text names (UnknownField line field) = lined (codes "UnknownField") line field
reason_text names (BadName line name) = lined (codes "BadName") line name
reason_text names (Duplicate line name) = lined (codes "Duplicate") line name
reason_text names (Unknown line name) = lined (codes "Unknown") line name
reason_text names (OverLimit line field n) = joined (lined (codes "OverLimit") line field ∷ codes " " ∷ decimal n ∷ [])
reason_text names (WrongHex line field) = lined (codes "WrongHex") line field
reason_text names (NotAdjacent line) = numbered_word (codes "NotAdjacent") line
reason_text names (ConformingCall line) = numbered_word (codes "ConformingCall") line
reason_text names (EventInRace line) = numbered_word (codes "EventInRace") line
reason_text names (SelfArc arc) = numbered_word (codes "SelfArc") arc
reason_text names (Parallel first second) = numbered_twice (codes "Parallel") first second
reason_text names (NotStrong set) = of_parties (codes "NotStrong") names set
reason_text names (ManyLeaders count) = numbered_word (codes "ManyLeaders") count
reason_text names (NotFeedback cycle) = of_parties (codes "NotFeedback") names cycle
reason_text names (BoundTooSmall given needed) = numbered_twice (codes "BoundTooSmall") given needed
reason_text names (StartTooSoon start delta) = numbered_twice (codes "StartTooSoon") start delta
reason_text names (WrongTimelock arc given wanted) = joined (numbered_twice (codes "WrongTimelock") arc given ∷ codes " " ∷ decimal wanted ∷ [])
reason_text names (NoSeed party) = of_party (codes "NoSeed") names party
reason_text names (WrongWallet party lock) = joined (of_party (codes "WrongWallet") names party ∷ codes " " ∷ decimal lock ∷ [])
reason_text names (BadLine line) = numbered_word (codes "BadLine") line
reason_text names CutShort = codes "CutShort"
reason_text names (BadReply arc entry stated replayed) = joined (numbered_twice
    (codes "BadReply") arc entry ∷ codes " " ∷ reply_text stated ∷ codes " " ∷ reply_text replayed ∷ [])
reason_text names (TooManyLeaders group count) = numbered_twice (codes "TooManyLeaders") group count
reason_text names (NoAccount swap arc) = numbered_twice (codes "NoAccount") swap arc
reason_text names (Overdrawn chain name have wanted) =
    joined (lined (codes "Overdrawn") chain name ∷ codes " " ∷ decimal have ∷ codes " " ∷ decimal wanted ∷ [])
reason_text names (NotConforming line) = numbered_word (codes "NotConforming") line

-- the line of a refusal, without a line feed
unfoldable pub refusal_line_text : List (List ℕ) → Reason → List ℕ
refusal_line_text names reason = joined (codes "swap: refused: " ∷ reason_text names reason ∷ [])
