-- What a line in a plain form says.
use Rattle.std.proofs.Common.{◌≡◌, ◌==◌, not, suc, nat_le, ℕ, ◌^◌, ◌<◌, ◌≤◌, ◌&&◌, true, nat_lt, List, [], ◌∷◌, ◌++◌, Some, None, Ok, decimal, refl, sym, ap}
use Rattle.std.proofs.Common.{ap₂, ◌∙◌, arith, append_assoc, append-nil, lt-ltb}
use Rattle.std.specs.Prelude.{codes}
use Rattle.std.specs.List.{list_all}
use Rattle.std.specs.Str.{IsAscii}
use Rattle.std.proofs.lemmas.Bool.{and_parts, leb-true, not-true, eqb-false}
use Rattle.std.proofs.lemmas.Fmt.{IsAscii-decimal}
use Rattle.std.proofs.lemmas.Str.{is_utf8-from_IsUtf8}
use Rattle.json.specs.Json as json
use Rattle.json.specs.Lex.{tokens}
use Rattle.json.specs.Print.{print, print_from, quoted, escape, escape_byte}
use Rattle.json.specs.Tree.{json_tokens, depth, HasNumbers}
use Rattle.json.proofs.Printed.Decimals.{IsNumber-decimal}
use Rattle.json.proofs.Printed.Strings.{escape_byte_plain}
use Rattle.json.proofs.Printed.Tokens.{tokens-print}
use Rattle.json.proofs.Printed.Trees.{value-json_tokens, ArePrintable-json_tokens}
use Rattle.json.proofs.Printed.Utf8.{are_ascii, IsUtf8-are_ascii}
use Rattle.serde_json.specs.Data.{unsigned, number, string, object, Members, no_members, member}
use Rattle.serde_json.specs.Read.{read, of_json, max_depth}
use Rattle.serde_json.proofs.Numbers.{number_of-decimal}
use Rattle.swap_job.specs.declared.job.Job.{Job}
use Rattle.offer_moves.specs.Fields.{parse_data, needed, field_number, field_text, optional_field_number, only}
use Rattle.offer_events.specs.declared.raw.RawEvent.{RawEvent}
use Rattle.offer_events.specs.declared.raw.RawEvent.TheVariants.{Tick, Look, Act}
use Rattle.offer_events.specs.Reading.{raw_event, raw_tick_event, raw_look_event, raw_act_event}
use Rattle.swap_base.proofs.Lists.{and_both}
use Rattle.offer_events.specs.Event.{asked_event, parse_event}
use Rattle.offer_events.specs.Plain.{is_plain_byte, SaysRawEvent}

-- the text that a tree of printable tokens is printed as is read as that tree
reads : (j : json.Json) (text : List ℕ) → HasNumbers j → depth j ≤ max_depth → text ≡ print (json_tokens j) → read text ≡ of_json j
reads j text numbers shallow same =
    let lexed : tokens text ≡ json_tokens j ++ [] = ap tokens same ∙ tokens-print (json_tokens j) (ArePrintable-json_tokens j numbers)
    ∙ sym (append-nil (json_tokens j)) in
    rw (lexed, value-json_tokens j max_depth [] shallow) refl

ascii_append : (xs ys : List ℕ) → are_ascii xs ≡ true → are_ascii ys ≡ true → are_ascii (xs ++ ys) ≡ true
ascii_append [] ys h k = k
ascii_append (x ∷ xs) ys h k = let p = and_parts _ _ h in and_both (nat_lt x 128) (are_ascii (xs ++ ys)) p.0 (ascii_append xs ys p.1 k)

ascii_each : (xs : List ℕ) → IsAscii xs → are_ascii xs ≡ true
ascii_each [] h = refl
ascii_each (x ∷ xs) h = and_both (nat_lt x 128) (are_ascii xs) (lt-ltb x 128 (h 0)) (ascii_each xs (λ i. h (suc i)))

ascii_number : (n : ℕ) (rest : List ℕ) → n < 2 ^ 64 → are_ascii rest ≡ true → are_ascii (decimal n ++ rest) ≡ true
ascii_number n rest h k = ascii_append (decimal n) rest (ascii_each (decimal n) (IsAscii-decimal n h)) k

-- a plain byte is one of ASCII that stands for itself
plain_byte : (x : ℕ) → is_plain_byte x ≡ true → (nat_lt x 128 ≡ true) × (escape_byte x ≡ x ∷ [])
plain_byte x e =
    let low = and_parts (nat_le 32 x) (nat_le x 126 && (not (x == 34) && not (x == 92))) e in
    let high = and_parts (nat_le x 126) (not (x == 34) && not (x == 92)) low.1 in
    let others = and_parts (not (x == 34)) (not (x == 92)) high.1 in
    let from : 32 ≤ x = leb-true 32 x low.0 in
    let to : x ≤ 126 = leb-true x 126 high.0 in
    (lt-ltb x 128 (omega arith), escape_byte_plain x (eqb-false x 34 (not-true (x == 34) others.0)) (eqb-false x 92 (not-true (x == 92) others.1)) from)

ascii_plain : (s rest : List ℕ) → list_all is_plain_byte s ≡ true → are_ascii rest ≡ true → are_ascii (s ++ rest) ≡ true
ascii_plain [] rest h k = k
ascii_plain (x ∷ xs) rest h k = let p = and_parts (is_plain_byte x) (list_all is_plain_byte xs) h in
    and_both (nat_lt x 128) (are_ascii (xs ++ rest)) (plain_byte x p.0).0 (ascii_plain xs rest p.1 k)

escape_plain : (s : List ℕ) → list_all is_plain_byte s ≡ true → escape s ≡ s
escape_plain [] h = refl
escape_plain (x ∷ xs) h = let p = and_parts (is_plain_byte x) (list_all is_plain_byte xs) h in ap₂ (λ (a b : List ℕ). a ++ b) (plain_byte x p.0).1
    (escape_plain xs p.1)

-- a line of ASCII that reads as an object which says an event
says : (line : ℕ) (text : List ℕ) (ms : Members) (raw : RawEvent) → are_ascii text ≡ true → read text ≡ Some (object ms)
    → raw_event line (object ms) ≡ Ok raw → SaysRawEvent line text raw
unfolding parse_data
says line text ms raw ascii is fields = record {
  object = object ms;
  is_object = rw (is_utf8-from_IsUtf8 text (IsUtf8-are_ascii text ascii), is) refl;
  says = fields;
}

-- a plain name between quotes
quoted_plain : (name rest : List ℕ) → list_all is_plain_byte name ≡ true → quoted name ++ rest ≡ 34 ∷ (name ++ 34 ∷ rest)
quoted_plain name rest h = rw (escape_plain name h) (ap (λ (l : List ℕ). 34 ∷ l) (append_assoc name (34 ∷ []) rest))

-- ---- the texts before the values

abbrev tick_key : List ℕ
tick_key = 123 ∷ 34 ∷ 116 ∷ 105 ∷ 99 ∷ 107 ∷ 34 ∷ 58 ∷ []

abbrev next_by_key : List ℕ
next_by_key = 44 ∷ 34 ∷ 98 ∷ 121 ∷ 34 ∷ 58 ∷ []

abbrev by_key : List ℕ
by_key = 123 ∷ 34 ∷ 98 ∷ 121 ∷ 34 ∷ 58 ∷ []

abbrev next_tick_key : List ℕ
next_tick_key = 44 ∷ 34 ∷ 116 ∷ 105 ∷ 99 ∷ 107 ∷ 34 ∷ 58 ∷ []

abbrev look_key : List ℕ
look_key = 123 ∷ 34 ∷ 108 ∷ 111 ∷ 111 ∷ 107 ∷ 34 ∷ 58 ∷ []

abbrev next_arc_key : List ℕ
next_arc_key = 44 ∷ 34 ∷ 97 ∷ 114 ∷ 99 ∷ 34 ∷ 58 ∷ []

abbrev arc_key : List ℕ
arc_key = 123 ∷ 34 ∷ 97 ∷ 114 ∷ 99 ∷ 34 ∷ 58 ∷ []

abbrev next_look_key : List ℕ
next_look_key = 44 ∷ 34 ∷ 108 ∷ 111 ∷ 111 ∷ 107 ∷ 34 ∷ 58 ∷ []

abbrev act_key : List ℕ
act_key = 123 ∷ 34 ∷ 97 ∷ 99 ∷ 116 ∷ 34 ∷ 58 ∷ []

-- ---- the forms

pub tick_alone : (line n : ℕ) (text rest : List ℕ) → n < 2 ^ 64 → text ≡ tick_key ++ (decimal n ++ rest) → rest ≡ 125 ∷ [] → SaysRawEvent line text (Tick n None)
unfolding print_from escape_byte raw_event raw_tick_event field_number optional_field_number needed only
tick_alone line n text rest h same closed =
    let whole : text ≡ tick_key ++ (decimal n ++ 125 ∷ []) = cc in
    let tree : json.Json = json.object (json.member (codes "tick") (json.number (decimal n)) json.no_members) in
    let members : Members = member (codes "tick") (number (unsigned n)) no_members in
    let is : read text ≡ Some (object members) = reads tree text (IsNumber-decimal n h, tt) (omega arith) whole ∙ rw (number_of-decimal n h) refl in
    says line text members (Tick n None) (rw whole (ascii_number n (125 ∷ []) h refl)) is refl

pub tick_then_by : (line n k : ℕ) (text rest end : List ℕ) → n < 2 ^ 64 → k < 2 ^ 64 → text ≡ tick_key ++ (decimal n ++ rest)
    → rest ≡ next_by_key ++ (decimal k ++ end) → end ≡ 125 ∷ [] → SaysRawEvent line text (Tick n (Some k))
unfolding print_from escape_byte raw_event raw_tick_event field_number optional_field_number needed only
tick_then_by line n k text rest end h g same next closed =
    let whole : text ≡ tick_key ++ (decimal n ++ (next_by_key ++ (decimal k ++ 125 ∷ []))) = cc in
    let tree : json.Json = json.object (json.member (codes "tick") (json.number (decimal n))
    (json.member (codes "by") (json.number (decimal k)) json.no_members)) in
    let members : Members = member (codes "by") (number (unsigned k)) (member (codes "tick") (number (unsigned n)) no_members) in
    let is : read text ≡ Some (object members) = reads tree text (IsNumber-decimal n h, (IsNumber-decimal k g, tt)) (omega arith) whole
    ∙ rw (number_of-decimal n h, number_of-decimal k g) refl in
    says line text members (Tick n (Some k)) (rw whole (ascii_number n (next_by_key ++ (decimal k ++ 125 ∷ [])) h (ascii_number k (125 ∷ []) g refl))) is refl

pub by_then_tick : (line n k : ℕ) (text rest end : List ℕ) → n < 2 ^ 64 → k < 2 ^ 64 → text ≡ by_key ++ (decimal k ++ rest)
    → rest ≡ next_tick_key ++ (decimal n ++ end) → end ≡ 125 ∷ [] → SaysRawEvent line text (Tick n (Some k))
unfolding print_from escape_byte raw_event raw_tick_event field_number optional_field_number needed only
by_then_tick line n k text rest end h g same next closed =
    let whole : text ≡ by_key ++ (decimal k ++ (next_tick_key ++ (decimal n ++ 125 ∷ []))) = cc in
    let tree : json.Json = json.object (json.member (codes "by") (json.number (decimal k))
    (json.member (codes "tick") (json.number (decimal n)) json.no_members)) in
    let members : Members = member (codes "by") (number (unsigned k)) (member (codes "tick") (number (unsigned n)) no_members) in
    let is : read text ≡ Some (object members) = reads tree text (IsNumber-decimal k g, (IsNumber-decimal n h, tt)) (omega arith) whole
    ∙ rw (number_of-decimal k g, number_of-decimal n h) refl in
    says line text members (Tick n (Some k)) (rw whole (ascii_number k (next_tick_key ++ (decimal n ++ 125 ∷ [])) g (ascii_number n (125 ∷ []) h refl)))
    is refl

pub look_then_arc : (line n : ℕ) (name text rest end : List ℕ) → n < 2 ^ 64 → list_all is_plain_byte name ≡ true → text ≡ look_key ++ (34 ∷ (name ++ 34 ∷ rest))
    → rest ≡ next_arc_key ++ (decimal n ++ end) → end ≡ 125 ∷ [] → SaysRawEvent line text (Look name n)
unfolding print_from escape_byte raw_event raw_look_event field_number field_text needed only
look_then_arc line n name text rest end h plain same next closed =
    let after : List ℕ = next_arc_key ++ (decimal n ++ 125 ∷ []) in
    let whole : text ≡ look_key ++ (34 ∷ (name ++ 34 ∷ (next_arc_key ++ (decimal n ++ 125 ∷ [])))) = cc in
    let tree : json.Json = json.object (json.member (codes "look") (json.string name) (json.member (codes "arc") (json.number (decimal n)) json.no_members))
    in
    let members : Members = member (codes "arc") (number (unsigned n)) (member (codes "look") (string name) no_members) in
    let printed : text ≡ print (json_tokens tree) = whole ∙ ap (λ (l : List ℕ). look_key ++ l) (sym (quoted_plain name after plain)) in
    let is : read text ≡ Some (object members) = reads tree text (tt, (IsNumber-decimal n h, tt)) (omega arith) printed ∙ rw (number_of-decimal n h) refl in
    says line text members (Look name n) (rw whole (ascii_plain name (34 ∷ after) plain (ascii_number n (125 ∷ []) h refl))) is refl

pub arc_then_look : (line n : ℕ) (name text rest end : List ℕ) → n < 2 ^ 64 → list_all is_plain_byte name ≡ true → text ≡ arc_key ++ (decimal n ++ rest)
    → rest ≡ next_look_key ++ (34 ∷ (name ++ 34 ∷ end)) → end ≡ 125 ∷ [] → SaysRawEvent line text (Look name n)
unfolding print_from escape_byte raw_event raw_look_event field_number field_text needed only
arc_then_look line n name text rest end h plain same next closed =
    let after : List ℕ = next_look_key ++ (34 ∷ (name ++ 34 ∷ 125 ∷ [])) in
    let whole : text ≡ arc_key ++ (decimal n ++ (next_look_key ++ (34 ∷ (name ++ 34 ∷ 125 ∷ [])))) = cc in
    let tree : json.Json = json.object (json.member (codes "arc") (json.number (decimal n)) (json.member (codes "look") (json.string name) json.no_members))
    in
    let members : Members = member (codes "arc") (number (unsigned n)) (member (codes "look") (string name) no_members) in
    let printed : text ≡ print (json_tokens tree) = whole ∙ ap (λ (l : List ℕ). arc_key ++ (decimal n ++ (next_look_key ++ l)))
    (sym (quoted_plain name (125 ∷ []) plain)) in
    let is : read text ≡ Some (object members) = reads tree text (IsNumber-decimal n h, (tt, tt)) (omega arith) printed ∙ rw (number_of-decimal n h) refl in
    says line text members (Look name n) (rw whole (ascii_number n after h (ascii_plain name (34 ∷ 125 ∷ []) plain refl))) is refl

pub act_alone : (line : ℕ) (name text end : List ℕ) → list_all is_plain_byte name ≡ true → text ≡ act_key ++ (34 ∷ (name ++ 34 ∷ end)) → end ≡ 125 ∷ []
    → SaysRawEvent line text (Act name)
unfolding print_from escape_byte raw_event raw_act_event field_text needed only
act_alone line name text end plain same closed =
    let whole : text ≡ act_key ++ (34 ∷ (name ++ 34 ∷ 125 ∷ [])) = cc in
    let tree : json.Json = json.object (json.member (codes "act") (json.string name) json.no_members) in
    let members : Members = member (codes "act") (string name) no_members in
    let printed : text ≡ print (json_tokens tree) = whole ∙ ap (λ (l : List ℕ). act_key ++ l) (sym (quoted_plain name (125 ∷ []) plain)) in
    let is : read text ≡ Some (object members) = reads tree text (tt, tt) (omega arith) printed ∙ refl in
    says line text members (Act name) (rw whole (ascii_plain name (34 ∷ 125 ∷ []) plain refl)) is refl

pub asked_by : (job : Job) (line : ℕ) (text : List ℕ) (raw : RawEvent) → SaysRawEvent line text raw → parse_event job line text ≡ asked_event job line raw
unfolding parse_event
asked_by job line text raw said = rw (said.is_object, said.says) refl
