-- What the fields of a header say, and what holds of the header that they give.
use Rattle.std.proofs.Common.{◌≡◌, ℕ, Bool, List, Result, Ok, Err, sym, ap, codes}
use Rattle.std.specs.Prelude.{IfOk}
use Rattle.serde_json.specs.Data.{Data}
use Rattle.swap_base.specs.Fault.{Gives}
use Rattle.swap_base.specs.declared.fault.Fault.{Fault}
use Rattle.swap_job.specs.declared.job.Purpose.{Purpose}
use Rattle.command_input.specs.declared.reason.Reason.{Reason}
use Rattle.offer_moves.specs.Fields.{field_number, field_list, only}
use Rattle.offer_header.specs.Raw.{object_arc, finish_member, header_fields, keys_member, object_leader, mode_member, parse_party, object_header, states_keys, version_member}
use Rattle.offer_header.specs.Raw.{IsVersionMode, IsUntimed, IsUntold, HasWords}
use Rattle.offer_header.specs.Names.{numbered_header}
use Rattle.offer_header.specs.Limits.{limited_value, HoldsEach}
use Rattle.offer_header.specs.Scripts.{scripts_placed, AreMade}
use Rattle.offer_header.specs.Header.{resolve_header, HasSimpleRoles, IsUntoldHeader, IsHeaderInLimits}
use Rattle.offer_header.specs.declared.raw.RawHeader.{RawHeader}
use Rattle.offer_header.specs.declared.names.Numbered.{Numbered}
use Rattle.offer_header.specs.declared.header.Header.{Header}
use Rattle.offer_header.proofs.Allowed.{is_mode_of}
use Rattle.offer_header.proofs.Answered.{after, answered, by_value}
use Rattle.offer_header.proofs.Held.{are_held}
use Rattle.offer_header.proofs.Limited.{set_contains_ends, opened}
use Rattle.offer_header.proofs.Numbered.{is_numbered}
use Rattle.offer_header.proofs.Simple.{are_simple, has_words}
use Rattle.offer_header.proofs.Standing.{all_made}
use Rattle.offer_header.proofs.Untimed.{arcs_untimed}
use Rattle.offer_header.proofs.Untold.{is_untold, limited_untold}

-- ---- the fields

record IsFit (purpose : Purpose) (h : RawHeader) : Type 0 where
  mode : IsVersionMode h.version h.mode
  untimed : IsUntimed h
  untold : IsUntold purpose h
  words : HasWords purpose h

fits : (purpose : Purpose) (line : ℕ) (d : Data) (h : RawHeader) → mode_member line h.version d ≡ Ok h.mode
    → field_list line (codes "parties") (parse_party (record { purpose = purpose; mode = h.mode }) line) d ≡ Ok h.parties
    → field_list line (codes "arcs") (object_arc (record { purpose = purpose; mode = h.mode }) line) d ≡ Ok h.arcs
    → finish_member line purpose d ≡ Ok h.finish → IsFit purpose h
fits purpose line d h m ps arcs f = record {
  mode = is_mode_of line h.version d h.mode m;
  untimed = λ is. arcs_untimed (record { purpose = purpose; mode = h.mode }) line d h.arcs is arcs;
  untold = is_untold purpose h.mode line d h ps f;
  words = has_words purpose h.mode line d h ps;
}

raw_fits : (purpose : Purpose) (line : ℕ) (d : Data) → IfOk (object_header purpose line d) (IsFit purpose)
unfolding object_header
raw_fits purpose line d =
    after (version_member line d) _ (IsFit purpose) (λ version v.
    after (mode_member line version d) _ (IsFit purpose) (λ mode m.
    after (field_number line (codes "start") d) _ (IsFit purpose) (λ start s.
    after (field_number line (codes "delta") d) _ (IsFit purpose) (λ delta t.
    after (field_number line (codes "bound") d) _ (IsFit purpose) (λ bound b.
    after (field_list line (codes "parties") (parse_party (record { purpose = purpose; mode = mode }) line) d) _ (IsFit purpose) (λ parties ps.
    after (field_list line (codes "arcs") (object_arc (record { purpose = purpose; mode = mode }) line) d) _ (IsFit purpose) (λ arcs some.
    after (field_list line (codes "leaders") (object_leader (record { purpose = purpose; mode = mode }) line) d) _ (IsFit purpose) (λ leaders ls.
    after (keys_member line (states_keys purpose mode) d) _ (IsFit purpose) (λ keys ks.
    after (finish_member line purpose d) _ (IsFit purpose) (λ finish f.
    after (only line (header_fields purpose (states_keys purpose mode)) d) _ (IsFit purpose) (λ u o.
    fits purpose line d (record {
      version = version;
      mode = mode;
      start = start;
      delta = delta;
      bound = bound;
      parties = parties;
      arcs = arcs;
      leaders = leaders;
      keys = keys;
      finish = finish;
    }) m ps some f)))))))))))

-- ---- the header

-- What holds of each header that is read.
pub record IsRead (has : List ℕ → Bool) (purpose : Purpose) (line : ℕ) (h : Header) : Type 0 where
  pub purpose_is : h.purpose ≡ purpose
  pub within : IsHeaderInLimits h
  pub untold : IsUntoldHeader purpose h
  pub simple : HasSimpleRoles purpose h
  pub strategies : HoldsEach has h.roles
  pub placed : scripts_placed line h ≡ Ok tt
  pub made : AreMade line h

is_read : (has : List ℕ → Bool) (purpose : Purpose) (line : ℕ) (raw : RawHeader) (n : Numbered) (h : Header) → IsFit purpose raw
    → numbered_header has line raw ≡ Ok n → limited_value purpose line raw n ≡ Ok h → scripts_placed line h ≡ Ok tt → IsRead has purpose line h
is_read has purpose line raw n h fit m l s =
    let numbered = is_numbered has line raw n m in
    let o = opened line purpose raw n h l in record {
      purpose_is = ap (λ (x : Header). x.purpose) (sym o.same);
      within = set_contains_ends line purpose raw n h numbered fit.mode fit.untimed l;
      untold = limited_untold line purpose raw n h fit.untold l;
      simple = are_simple line purpose raw n h fit.words l;
      strategies = are_held has line purpose raw n h m l;
      placed = s;
      made = all_made line purpose raw n h numbered l;
    }

all_read : (has : List ℕ → Bool) (purpose : Purpose) (line : ℕ) (raw : RawHeader) → IsFit purpose raw
    → IfOk (resolve_header has purpose line raw) (IsRead has purpose line)
all_read has purpose line raw fit =
    after (numbered_header has line raw) _ (IsRead has purpose line) (λ n m.
    after (limited_value purpose line raw n) _ (IsRead has purpose line) (λ h l.
    after (scripts_placed line h) _ (IsRead has purpose line) (λ u s. is_read has purpose line raw n h fit m l s)))

weaker : {A E : Type 0} (r : Result A E) (P Q : A → Type 0) → ((x : A) → P x → Q x) → IfOk r P → IfOk r Q
weaker (Ok x) P Q h p = h x p
weaker (Err e) P Q h p = tt

-- what holds of each header that is read holds of what is answered once the fields are read
pub read_so : (has : List ℕ → Bool) (purpose : Purpose) (line : ℕ) (d : Data) (raw : RawHeader) (r : Result Header (Fault Reason)) (Q : Header → Type 0)
    → object_header purpose line d ≡ Ok raw → Gives (λ h. h) r (resolve_header has purpose line raw) → ((h : Header) → IsRead has purpose line h → Q h) → IfOk r Q
read_so has purpose line d raw r Q e g h =
    let fit = by_value raw (object_header purpose line d) (IsFit purpose) e (raw_fits purpose line d) in
    weaker r (IsRead has purpose line) Q h (answered r (resolve_header has purpose line raw) (IsRead has purpose line) g (all_read has purpose line raw fit))
