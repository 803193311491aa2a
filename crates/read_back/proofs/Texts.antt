-- Values of JSON whose text is read back: numbers, texts, lists, and objects whose fields stand in
-- the order of their bytes.
use Rattle.std.proofs.Common.{◌≡◌, inl, inr, ◌&&◌, ◌^◌, ◌≤◌, ◌<◌, ℕ, suc, Bool, true, false, List, [], ◌∷◌, ◌++◌, map, decimal, Option, Some}
use Rattle.std.proofs.Common.{refl, sym, ap, ◌∙◌, arith, append-nil}
use Rattle.std.specs.Ordering.{match_ordering, nat_cmp}
use Rattle.std.specs.declared.cmp.Ordering.{Ordering}
use Rattle.std.specs.declared.cmp.Ordering.TheVariants.{Less, Equal, Greater}
use Rattle.std.specs.Cmp.Lexicographic.{slice_cmp}
use Rattle.std.specs.Prelude.{option_and_then, option_map}
use Rattle.std.specs.Str.{IsUtf8}
use Rattle.std.proofs.lemmas.Fmt.{IsAscii-decimal}
use Rattle.std.proofs.lemmas.Str.{IsUtf8-append, IsUtf8-from_ascii, IsUtf8-nil}
use Rattle.json.specs.Json as json
use Rattle.json.specs.Print.{quoted}
use Rattle.json.specs.Token.{Token}
use Rattle.json.specs.Tree as tree
use Rattle.json.proofs.Printed.Decimals.{IsNumber-decimal}
use Rattle.json.proofs.Printed.Tokens.{tokens-print}
use Rattle.json.proofs.Printed.Trees.{ArePrintable-json_tokens, value-json_tokens}
use Rattle.json.proofs.Printed.Utf8.{IsUtf8-are_ascii, IsUtf8-quoted}
use Rattle.serde_json.specs.Data.{Data, number, string, array, object, item, Members, no_members, member, put}
use Rattle.serde_json.specs.Read.{max_depth, of_items, of_json, of_members, read}
use Rattle.serde_json.specs.View.{items_of}
use Rattle.serde_json.specs.Written.{comma_if, compact_text, items_outline, items_text, members_outline, members_text, outline}
use Rattle.serde_json.proofs.Numbers.{number_of-decimal}
use Rattle.serde_json.proofs.Texts.{print-outline}
use Rattle.swap_base.specs.Lists.{IsElement}
use Rattle.swap_base.proofs.Lists.{and_parts}
use Rattle.offer_text.specs.Words.{list_data, number_data}

-- A value that is written as text, and as what it is read again; lists and objects nest at most k
-- deep in it.
pub record IsRead (k : ℕ) (d : Data) : Type 0 where
  pub of : of_json (outline d) ≡ Some d
  pub numbers : tree.HasNumbers (outline d)
  pub text : IsUtf8 (compact_text d)
  pub low : tree.depth (outline d) ≤ k

pub some_step : {A B : Type 0} (o : Option A) (x : A) (f : A → Option B) → o ≡ Some x → option_and_then f o ≡ f x
some_step {A = A} o x f e = ap (λ (q : Option A). option_and_then f q) e

-- the text of a value with these properties is read as the value
pub reads_back : (k : ℕ) (d : Data) → IsRead k d → k ≤ max_depth → read (compact_text d) ≡ Some d
reads_back k d h le =
    let j = outline d in
    let ts = tree.json_tokens j in
    ap read (sym (print-outline d))
    ∙ ap (λ (q : Option (json.Json × List Token)). option_and_then of_json (option_and_then (λ p. json.if_last p.0 p.1) q))
    (ap (json.value max_depth) (tokens-print ts (ArePrintable-json_tokens j h.numbers) ∙ sym (append-nil ts))
    ∙ value-json_tokens j max_depth [] (omega (arith, h.low, le)))
    ∙ h.of

pub number_is : (k n : ℕ) → n < 2 ^ 64 → IsRead k (number_data n)
number_is k n lt = record {
  of = ap (option_map number) (number_of-decimal n lt);
  numbers = IsNumber-decimal n lt;
  text = IsUtf8-from_ascii (decimal n) (IsAscii-decimal n lt);
  low = omega arith;
}

pub string_is : (k : ℕ) (s : List ℕ) → IsUtf8 s → IsRead k (string s)
string_is k s u = record { of = refl; numbers = tt; text = IsUtf8-quoted s u; low = omega arith }

-- a byte before a text
before : (b : ℕ) (s : List ℕ) → IsUtf8 (b ∷ []) → IsUtf8 s → IsUtf8 (b ∷ s)
before b s u v = IsUtf8-append (b ∷ []) s u v

comma : (later : Bool) → IsUtf8 (comma_if later)
comma true = IsUtf8-are_ascii (44 ∷ []) refl
comma false = IsUtf8-nil

-- ---- lists

module _ {A : Type 0} (k : ℕ) (f : A → Data) where
  items_back : (xs : List A) → ((x : A) → IsElement x xs → IsRead k (f x)) → of_items (items_outline (items_of (map f xs))) ≡ Some (items_of (map f xs))
  items_back [] h = refl
  items_back (x ∷ xs) h =
      some_step (of_json (outline (f x))) (f x) (λ d. option_map (item d) (of_items (items_outline (items_of (map f xs))))) (h x (inl refl)).of
      ∙ ap (option_map (item (f x))) (items_back xs (λ y i. h y (inr i)))

  items_numbers : (xs : List A) → ((x : A) → IsElement x xs → IsRead k (f x)) → tree.ItemsHaveNumbers (items_outline (items_of (map f xs)))
  items_numbers [] h = tt
  items_numbers (x ∷ xs) h = ((h x (inl refl)).numbers, items_numbers xs (λ y i. h y (inr i)))

  items_low : (xs : List A) → ((x : A) → IsElement x xs → IsRead k (f x)) → tree.items_depth (items_outline (items_of (map f xs))) ≤ k
  items_low [] h = omega arith
  items_low (x ∷ xs) h = let one = (h x (inl refl)).low in let rest = items_low xs (λ y i. h y (inr i)) in omega arith

  items_are_text : (later : Bool) (xs : List A) → ((x : A) → IsElement x xs → IsRead k (f x)) → IsUtf8 (items_text later (items_of (map f xs)))
  items_are_text later [] h = IsUtf8-are_ascii (93 ∷ []) refl
  items_are_text later (x ∷ xs) h =
      IsUtf8-append (comma_if later) (compact_text (f x) ++ items_text true (items_of (map f xs))) (comma later)
      (IsUtf8-append (compact_text (f x)) (items_text true (items_of (map f xs))) (h x (inl refl)).text (items_are_text true xs (λ y i. h y (inr i))))

  pub list_is : (xs : List A) → ((x : A) → IsElement x xs → IsRead k (f x)) → IsRead (suc k) (list_data f xs)
  list_is xs h = record {
    of = ap (option_map array) (items_back xs h);
    numbers = items_numbers xs h;
    text = before 91 (items_text false (items_of (map f xs))) (IsUtf8-are_ascii (91 ∷ []) refl) (items_are_text false xs h);
    low = let l = items_low xs h in omega arith;
  }

-- ---- objects

-- each field's name is text, and its value is read back
abbrev pub AreRead : ℕ → Members → Type 0
AreRead k no_members = Unit {0}
AreRead k (member name d ms) = IsUtf8 name × IsRead k d × AreRead k ms

members_numbers : (k : ℕ) (ms : Members) → AreRead k ms → tree.MembersHaveNumbers (members_outline ms)
members_numbers k no_members h = tt
members_numbers k (member name d ms) h = (h.1.numbers, members_numbers k ms h.2)

members_low : (k : ℕ) (ms : Members) → AreRead k ms → tree.members_depth (members_outline ms) ≤ k
members_low k no_members h = omega arith
members_low k (member name d ms) h = let one = h.1.low in let rest = members_low k ms h.2 in omega arith

members_are_text : (k : ℕ) (later : Bool) (ms : Members) → AreRead k ms → IsUtf8 (members_text later ms)
members_are_text k later no_members h = IsUtf8-are_ascii (125 ∷ []) refl
members_are_text k later (member name d ms) h =
    let rest = IsUtf8-append (compact_text d) (members_text true ms) h.1.text (members_are_text k true ms h.2) in
    IsUtf8-append (comma_if later) (quoted name ++ 58 ∷ (compact_text d ++ members_text true ms)) (comma later)
    (IsUtf8-append (quoted name) (58 ∷ (compact_text d ++ members_text true ms)) (IsUtf8-quoted name h.0)
    (before 58 (compact_text d ++ members_text true ms) (IsUtf8-are_ascii (58 ∷ []) refl) rest))

-- whether a field's name is greater than those of other fields
abbrev pub is_greater : Ordering → Bool
is_greater Less = false
is_greater Equal = false
is_greater Greater = true

abbrev pub all_below : Members → List ℕ → Bool
all_below no_members name = true
all_below (member other e ms) name = is_greater (slice_cmp nat_cmp name other) && all_below ms name

-- one more field
abbrev pub with_field : Members → List ℕ → Data → Members
with_field no_members name d = member name d no_members
with_field (member other e ms) name d = member other e (with_field ms name d)

-- fields after others
abbrev pub after : Members → Members → Members
after found no_members = found
after found (member name d ms) = after (with_field found name d) ms

-- whether fields stand in the order of their bytes, after others
abbrev pub in_order : Members → Members → Bool
in_order found no_members = true
in_order found (member name d ms) = all_below found name && in_order (with_field found name d) ms

by_order : (o : Ordering) (a b c : Members) → is_greater o ≡ true → match_ordering o a b c ≡ c
by_order Less a b c e = absurd (cc e)
by_order Equal a b c e = absurd (cc e)
by_order Greater a b c e = refl

put_last : (name : List ℕ) (d : Data) (found : Members) → all_below found name ≡ true → put name d found ≡ with_field found name d
put_last name d no_members e = refl
put_last name d (member other x ms) e =
    let p = and_parts (is_greater (slice_cmp nat_cmp name other)) (all_below ms name) e in
    by_order (slice_cmp nat_cmp name other) (member name d (member other x ms)) (member other d ms) (member other x (put name d ms)) p.0
    ∙ ap (λ (l : Members). member other x l) (put_last name d ms p.1)

members_back : (k : ℕ) (found ms : Members) → AreRead k ms → in_order found ms ≡ true → of_members (members_outline ms) found ≡ Some (after found ms)
members_back k found no_members h e = refl
members_back k found (member name d ms) h e =
    let p = and_parts (all_below found name) (in_order (with_field found name d) ms) e in
    some_step (of_json (outline d)) d (λ x. of_members (members_outline ms) (put name x found)) h.1.of
    ∙ ap (of_members (members_outline ms)) (put_last name d found p.0)
    ∙ members_back k (with_field found name d) ms h.2 p.1

-- an object whose fields stand in the order of their bytes
pub object_is : (k : ℕ) (ms : Members) → AreRead k ms → in_order no_members ms ≡ true → after no_members ms ≡ ms → IsRead (suc k) (object ms)
object_is k ms h e same = record {
  of = ap (option_map object) (members_back k no_members ms h e ∙ ap (λ (l : Members). Some l) same);
  numbers = members_numbers k ms h;
  text = before 123 (members_text false ms) (IsUtf8-are_ascii (123 ∷ []) refl) (members_are_text k false ms h);
  low = let l = members_low k ms h in omega arith;
}
