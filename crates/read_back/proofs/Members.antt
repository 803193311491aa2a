-- Objects some of whose fields may be absent: they are read back, and each field is found in them.
use Rattle.std.proofs.Common.{◌≡◌, ◌&&◌, ℕ, suc, Bool, true, List, [], ◌∷◌, Option, Some, None, option_map, refl, sym, ap, ◌∙◌}
use Rattle.std.specs.Ordering.{match_ordering, nat_cmp}
use Rattle.std.specs.declared.cmp.Ordering.{Ordering}
use Rattle.std.specs.declared.cmp.Ordering.TheVariants.{Less, Equal, Greater}
use Rattle.std.specs.Cmp.Lexicographic.{slice_cmp}
use Rattle.std.specs.List.{list_any}
use Rattle.std.specs.Str.{bytes_eq, IsUtf8}
use Rattle.serde_json.specs.Data.{Data, object, Members, no_members, member}
use Rattle.serde_json.specs.Find.{get_member}
use Rattle.swap_base.specs.Lists.{or_else}
use Rattle.swap_base.proofs.Lists.{and_both, and_parts}
use Rattle.offer_moves.specs.Fields.{first_unknown}
use Rattle.offer_text.specs.Words.{with_optional}
use Rattle.read_back.proofs.Texts.{after, all_below, in_order, is_greater, object_is, with_field, AreRead, IsRead}

-- the fields that are there, in order
abbrev pub with_fields : List (List ℕ × Option Data) → Members
with_fields [] = no_members
with_fields (f ∷ fs) = with_optional f.0 (λ d. d) f.1 (with_fields fs)

-- a field before others, said by what is there
pub also : {A : Type 0} (name : List ℕ) (f : A → Data) (o : Option A) (ms ns : Members) → ms ≡ ns
    → with_optional name f o ms ≡ with_optional name (λ d. d) (option_map f o) ns
also name f None ms ns e = e
also name f (Some x) ms ns e = ap (λ (l : Members). member name (f x) l) e

-- ---- read back

-- whether a name is greater than others
abbrev is_above : List (List ℕ) → List ℕ → Bool
is_above [] name = true
is_above (k ∷ ks) name = is_greater (slice_cmp nat_cmp name k) && is_above ks name

-- whether the names of fields rise, after others
abbrev pub rising : List (List ℕ) → List (List ℕ × Option Data) → Bool
rising before [] = true
rising before (f ∷ fs) = is_above before f.0 && rising (f.0 ∷ before) fs

one_above : (found : Members) (k : List ℕ) (d : Data) (name : List ℕ) → is_greater (slice_cmp nat_cmp name k) ≡ true → all_below found name ≡ true
    → all_below (with_field found k d) name ≡ true
one_above no_members k d name g h = and_both (is_greater (slice_cmp nat_cmp name k)) true g refl
one_above (member other e ms) k d name g h =
    let p = and_parts (is_greater (slice_cmp nat_cmp name other)) (all_below ms name) h in
    and_both (is_greater (slice_cmp nat_cmp name other)) (all_below (with_field ms k d) name) p.0 (one_above ms k d name g p.1)

one_in_order : (name : List ℕ) (o : Option Data) (rest found : Members) → all_below found name ≡ true → in_order found rest ≡ true
    → ((d : Data) → in_order (with_field found name d) rest ≡ true) → in_order found (with_optional name (λ d. d) o rest) ≡ true
one_in_order name None rest found a h k = h
one_in_order name (Some d) rest found a h k = and_both (all_below found name) (in_order (with_field found name d) rest) a (k d)

all_in_order : (fs : List (List ℕ × Option Data)) (before : List (List ℕ)) (found : Members)
    → ((name : List ℕ) → is_above before name ≡ true → all_below found name ≡ true) → rising before fs ≡ true → in_order found (with_fields fs) ≡ true
all_in_order [] before found h e = refl
all_in_order (f ∷ fs) before found h e =
    let p = and_parts (is_above before f.0) (rising (f.0 ∷ before) fs) e in
    one_in_order f.0 f.1 (with_fields fs) found (h f.0 p.0)
    (all_in_order fs (f.0 ∷ before) found (λ name g.
    h name (and_parts (is_greater (slice_cmp nat_cmp name f.0)) (is_above before name) g).1) p.1)
    (λ d. all_in_order fs (f.0 ∷ before) (with_field found f.0 d) (λ name g.
    let q = and_parts (is_greater (slice_cmp nat_cmp name f.0)) (is_above before name) g in
    one_above found f.0 d name q.0 (h name q.1)) p.1)

-- fields behind others
abbrev behind : Members → Members → Members
behind no_members ms = ms
behind (member n d more) ms = member n d (behind more ms)

behind_none : (found : Members) → behind found no_members ≡ found
behind_none no_members = refl
behind_none (member n d more) = ap (λ (l : Members). member n d l) (behind_none more)

one_behind : (found : Members) (n : List ℕ) (d : Data) (ms : Members) → behind (with_field found n d) ms ≡ behind found (member n d ms)
one_behind no_members n d ms = refl
one_behind (member other e more) n d ms = ap (λ (l : Members). member other e l) (one_behind more n d ms)

all_behind : (found ms : Members) → after found ms ≡ behind found ms
all_behind found no_members = sym (behind_none found)
all_behind found (member n d ms) = all_behind (with_field found n d) ms ∙ one_behind found n d ms

pub fields_are : (k : ℕ) (fs : List (List ℕ × Option Data)) → AreRead k (with_fields fs) → rising [] fs ≡ true → IsRead (suc k) (object (with_fields fs))
fields_are k fs h e =
    object_is k (with_fields fs) h (all_in_order fs [] no_members (λ name g. refl) e) (all_behind no_members (with_fields fs))

-- a value that may be absent is read back
abbrev pub MayBeRead : ℕ → Option Data → Type 0
MayBeRead k None = Unit {0}
MayBeRead k (Some d) = IsRead k d

pub one_read : (k : ℕ) (name : List ℕ) (o : Option Data) (ms : Members) → IsUtf8 name → MayBeRead k o → AreRead k ms
    → AreRead k (with_optional name (λ d. d) o ms)
one_read k name None ms u h r = r
one_read k name (Some d) ms u h r = (u, h, r)

-- ---- found

-- the field of that name
abbrev pub field_in : List ℕ → List (List ℕ × Option Data) → Option Data
field_in k [] = None
field_in k (f ∷ fs) = match_ordering (slice_cmp nat_cmp k f.0) (field_in k fs) (or_else f.1 (field_in k fs)) (field_in k fs)

by_order : (o : Ordering) (x y z : Option Data) → x ≡ y → match_ordering o x z x ≡ match_ordering o y z y
by_order Less x y z e = e
by_order Equal x y z e = refl
by_order Greater x y z e = e

any_order : (o : Ordering) (x y : Option Data) → x ≡ y → x ≡ match_ordering o y y y
any_order Less x y e = e
any_order Equal x y e = e
any_order Greater x y e = e

one_found : (k name : List ℕ) (o : Option Data) (ms : Members) (rest : Option Data) → get_member k ms ≡ rest
    → get_member k (with_optional name (λ d. d) o ms) ≡ match_ordering (slice_cmp nat_cmp k name) rest (or_else o rest) rest
one_found k name None ms rest e = any_order (slice_cmp nat_cmp k name) (get_member k ms) rest e
one_found k name (Some d) ms rest e = by_order (slice_cmp nat_cmp k name) (get_member k ms) rest (Some d) e

pub all_found : (k : List ℕ) (fs : List (List ℕ × Option Data)) → get_member k (with_fields fs) ≡ field_in k fs
all_found k [] = refl
all_found k (f ∷ fs) = one_found k f.0 f.1 (with_fields fs) (field_in k fs) (all_found k fs)

-- ---- no others

-- whether the names of fields are allowed
abbrev pub are_allowed : List (List ℕ) → List (List ℕ × Option Data) → Bool
are_allowed allowed [] = true
are_allowed allowed (f ∷ fs) = list_any (bytes_eq f.0) allowed && are_allowed allowed fs

one_known : (allowed : List (List ℕ)) (name : List ℕ) (o : Option Data) (ms : Members) → list_any (bytes_eq name) allowed ≡ true
    → first_unknown allowed ms ≡ None → first_unknown allowed (with_optional name (λ d. d) o ms) ≡ None
one_known allowed name None ms a e = e
one_known allowed name (Some d) ms a e = rw a e

pub all_known : (allowed : List (List ℕ)) (fs : List (List ℕ × Option Data)) → are_allowed allowed fs ≡ true → first_unknown allowed (with_fields fs) ≡ None
all_known allowed [] e = refl
all_known allowed (f ∷ fs) e =
    let p = and_parts (list_any (bytes_eq f.0) allowed) (are_allowed allowed fs) e in
    one_known allowed f.0 f.1 (with_fields fs) p.0 (all_known allowed fs p.1)
