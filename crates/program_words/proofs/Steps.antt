-- What one word does to `clap`'s walk.
use Rattle.std.proofs.Common.{◌≡◌, ◌&&◌, Bool, true, false, List, [], ◌∷◌, Some, None, refl}
use Rattle.std.specs.Str.{bytes_eq}
use Rattle.clap.specs.Lexer.{long_of, short_of}
use Rattle.clap.specs.Walk.{Held, Rule, Text, Walk, Waiting, idle, option, arg_by_id, arg_by_long, most_values, reacted, settled, takes_values, walked}
use Rattle.clap.specs.Takes.{react_passes, settle_passes, turn_passes}
use Rattle.program_words.proofs.Rules.{shape}

-- where the walk stands between two words
abbrev pub at : Waiting → Held → Walk
at waiting h = record { held = h; waiting = waiting; position = 1; is_trailing = false; stopped = None }

-- a word leads the walk on, and passes where a test does
pub record Leads (name : Text) (rs : List Rule) (waiting : Waiting) (h : Held) (word : Text) (then : Waiting) (after : Held) (test : Bool) : Type 0 where
  pub walks : walked rs [] (at waiting h) word ≡ at then after
  pub passes : turn_passes (shape name rs) [] (at waiting h) word ≡ test

and_true : (b : Bool) → (b && true) ≡ b
and_true true = refl
and_true false = refl

-- an option with no number
pub flag_leads : (name nm : Text) (rs : List Rule) (a : Rule) (h : Held) (word : Text) → bytes_eq word (45 ∷ 45 ∷ []) ≡ false
    → long_of word ≡ Some (nm, None) → arg_by_long rs nm ≡ Some a → takes_values a ≡ false
    → Leads name rs idle h word idle (reacted rs a [] h) (react_passes rs false a [] h)
unfolding walked
flag_leads name nm rs a h word dashes long found takes = record {
  walks = rw (dashes, long, found, takes) refl;
  passes = rw (dashes, long, found, takes) (and_true (react_passes rs false a [] h));
}

-- an option with its number behind `=`
pub behind_leads : (name nm text : Text) (rs : List Rule) (a : Rule) (h : Held) (word : Text) → bytes_eq word (45 ∷ 45 ∷ []) ≡ false
    → long_of word ≡ Some (nm, Some text) → arg_by_long rs nm ≡ Some a → takes_values a ≡ true
    → Leads name rs idle h word idle (reacted rs a (text ∷ []) h) (react_passes rs false a (text ∷ []) h)
unfolding walked
behind_leads name nm text rs a h word dashes long found takes = record {
  walks = rw (dashes, long, found, takes) refl;
  passes = rw (dashes, long, found, takes) (and_true (react_passes rs false a (text ∷ []) h));
}

abbrev pub awaiting : List Rule → Rule → Held → Held
awaiting rs a h = record (settled rs h) { pending = Some (a.id, []) }

-- an option whose number is the next word
pub option_leads : (name nm : Text) (rs : List Rule) (a : Rule) (h : Held) (word : Text) → bytes_eq word (45 ∷ 45 ∷ []) ≡ false
    → long_of word ≡ Some (nm, None) → arg_by_long rs nm ≡ Some a → takes_values a ≡ true
    → Leads name rs idle h word (option a.id) (awaiting rs a h) (settle_passes rs false h)
unfolding walked
option_leads name nm rs a h word dashes long found takes = record {
  walks = rw (dashes, long, found, takes) refl;
  passes = rw (dashes, long, found, takes) (and_true (settle_passes rs false h));
}

-- that number
pub number_leads : (name : Text) (rs : List Rule) (a : Rule) (h : Held) (word : Text) → bytes_eq word (45 ∷ 45 ∷ []) ≡ false
    → long_of word ≡ None → short_of word ≡ None → arg_by_id rs a.id ≡ Some a → h.pending ≡ Some (a.id, []) → most_values a ≡ 1
    → bytes_eq a.id a.id ≡ true
    → Leads name rs (option a.id) h word idle (record h { pending = Some (a.id, word ∷ []) }) true
unfolding walked
number_leads name rs a h word dashes long short found pending most same = record {
  walks = rw (dashes, long, short, found, pending, same, most) refl;
  passes = rw (dashes, long, short) refl;
}
