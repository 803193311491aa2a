-- What was sent, told by the hashkeys of a party's unlock calls.
use Rattle.std.proofs.Common.{◌≡◌, ℕ, ◌==◌, Bool, true, false, cond, ◌&&◌, List, Some, None, refl, sym, ap}
use denote.Ref.{Bor}
use Rattle.std.specs.List.{list_any}
use Rattle.std.specs.Str.{bytes_eq}
use Rattle.swap_base.specs.Lists.{same_list}
use Rattle.hash_signature.specs.declared.sig.Sig.{Sig}
use Rattle.hashkey_path.specs.declared.hashkey.Hashkey.{Hashkey}
use Rattle.hashkey_path.specs.Hashkey.{same_key}
use Rattle.ledger_core.specs.Book.{Histories}
use Rattle.swap_rules.specs.Party.{unlock_hashkey}
use Rattle.swap_rules.specs.Conduct.{carries, is_first_key}
use Rattle.conduct_check.specs.Sent.{shown, party_unlocks}
use Rattle.conduct_check.proofs.Unlocks.{OfUnlocks, any_sent}
use Rattle.conduct_check.specs.CallConduct.{has_made_parts, has_sent}

by_lock : (b : Bool) (sent key : Hashkey) → (sent.lock == key.lock) ≡ b → is_first_key (cond b (Some sent) None) key ≡ same_key sent key
by_lock true sent key e = refl
by_lock false sent key e =
    sym (ap (λ b. b && bytes_eq sent.secret key.secret && same_list (λ x y. x == y) sent.path key.path
    && same_list (λ s t. same_list bytes_eq s t) sent.sigs key.sigs) e)

of_key : (key : Hashkey) → OfUnlocks (λ o. is_first_key (unlock_hashkey key.lock o) key) (λ sent. same_key sent key)
of_key key =
    record {
      none = refl;
      publish = λ t. refl;
      unlock = λ sent. by_lock (sent.lock == key.lock) sent key refl;
      claim = refl;
      refund = refl;
      transfer =
          λ to units. refl;
    }

of_secret : (secret : List ℕ) → OfUnlocks (carries secret) (λ sent. bytes_eq sent.secret secret)
of_secret secret = record { none = refl; publish = λ t. refl; unlock = λ sent. refl; claim = refl; refund = refl; transfer = λ to units. refl }

pub made_by_parts : (b : Histories) (v lock : ℕ) (secret path : List ℕ) (sigs : List Sig) (rs : List (Bor Hashkey)) → shown rs ≡ party_unlocks b v
    → has_made_parts b v lock secret path sigs ≡ list_any (λ r. same_key r.now (record { lock = lock; secret = secret; path = path; sigs = sigs })) rs
made_by_parts b v lock secret path sigs rs e =
    let key : Hashkey = record { lock = lock; secret = secret; path = path; sigs = sigs } in
    any_sent (λ o. is_first_key (unlock_hashkey lock o) key) (λ sent. same_key sent key) (of_key key) v b rs e

pub sent_secret : (b : Histories) (v : ℕ) (secret : List ℕ) (rs : List (Bor Hashkey)) → shown rs ≡ party_unlocks b v
    → has_sent b v secret ≡ list_any (λ r. bytes_eq r.now.secret secret) rs
sent_secret b v secret rs e = any_sent (carries secret) (λ sent. bytes_eq sent.secret secret) (of_secret secret) v b rs e
