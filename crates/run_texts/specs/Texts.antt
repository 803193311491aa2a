-- What the writer's functions append.
use Rattle.std.specs.Prelude.{ℕ, List, [], ◌∷◌, ◌++◌, codes, decimal}
use Rattle.hex.specs.Hex.{encode_lower}
use Rattle.swap_base.specs.Text.{joined, lines}
use Rattle.hash_signature.specs.declared.sig.Sig.{Sig}
use Rattle.escrow_core.specs.declared.terms.Terms.{Terms}
use Rattle.ledger_core.specs.declared.entry.Entry.{Entry}
use Rattle.ledger_core.specs.declared.runs.Item.{Item}
use Rattle.ledger_core.specs.Runs.{ledger_entries}
use Rattle.swap_job.specs.declared.job.Job.{Job}
use Rattle.offer_text.specs.HeaderLine.{header_line}
use Rattle.transcript_book.specs.Words.{signature_word}
use Rattle.transcript_book.specs.Lines.{entry_line, ledger_line}

-- ---- fields of a line

-- a digest after a space
abbrev pub digest_after_space : ℕ → List ℕ → List ℕ
digest_after_space number x = 32 ∷ encode_lower x

-- a party's number after a comma
abbrev pub party_after_comma : ℕ → ℕ → List ℕ
party_after_comma number p = 44 ∷ decimal p

-- a signature after a comma
abbrev pub signature_words : ℕ → Sig → List ℕ
signature_words number s = 44 ∷ signature_word s

-- the fields of a publish before its digests
unfoldable pub numbers_text : Terms → List ℕ
numbers_text t =
    joined (codes "publish " ∷ decimal t.start ∷ codes " " ∷ decimal t.delta ∷ codes " " ∷ decimal t.bound ∷ codes " " ∷ decimal t.timelock ∷ codes " " ∷
    decimal t.amount ∷ [])

-- ---- lines

-- the line of an entry, with its line feed
abbrev pub entry_text : ℕ → Entry → List ℕ
entry_text number e = entry_line e ++ 10 ∷ []

abbrev pub entries_text : List Entry → List ℕ
entries_text h = lines entry_text 0 h

-- the lines of the entries that an item stands for
abbrev pub item_text : ℕ → Item → List ℕ
item_text number item = entries_text (ledger_entries item)

-- the line before the entries of an arc, with its line feed
abbrev pub count_text : ℕ → List Entry → List ℕ
count_text a h = ledger_line a h ++ 10 ∷ []

-- the lines of a ledger
unfoldable pub ledger_text : ℕ → List Entry → List ℕ
ledger_text a h = count_text a h ++ entries_text h

-- the first two lines
abbrev pub head_text : Job → List ℕ
head_text job = codes "swap transcript 1\n" ++ (header_line job ++ 10 ∷ [])
