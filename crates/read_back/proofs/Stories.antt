-- Two whole transcripts that are the same text tell of one job and one book.
use Rattle.std.proofs.Common.{◌≡◌, ℕ, List, Option, refl, sym, ap, ◌∙◌, subst, arith}
use Rattle.std.specs.List.{AllByRecursion}
use Rattle.ledger_core.specs.Book.{Histories}
use Rattle.swap_digraph.specs.Deal.{IsWellSized}
use Rattle.swap_job.specs.declared.job.Job.{Job}
use Rattle.command_input.specs.Lines.{collect_lines}
use Rattle.transcript_book.specs.Lines.{IsWholeTranscript}
use Rattle.transcript_book.proofs.Stories.{one_story}
use Rattle.transcript_book.proofs.Complete.{few_arcs, stated_from}
use Rattle.transcript_book.proofs.OneLine.{book_lines}
use Rattle.read_back.specs.Made.{IsOneLine, WholeTextHasOneStory}
use Rattle.read_back.proofs.Lines.{ended_lines}

-- no line of a whole transcript holds a line feed
lines_are_one : (parse_whole_header : List ℕ → Option Job) (ls : List (List ℕ)) (job : Job) (b : Histories) (w : IsWholeTranscript parse_whole_header ls job b)
    → IsWellSized job.deal → IsOneLine w.header → AllByRecursion IsOneLine ls
lines_are_one parse_whole_header ls job b w sized one =
    let few = few_arcs job.deal sized in
    let count = w.stated.formed.one_each in
    subst (AllByRecursion IsOneLine) (sym w.lines)
    (refl, (one, book_lines job.deal 0 b (stated_from job.deal b w.stated) (omega (arith, few, count))))

pub whole_text_has_one_story : WholeTextHasOneStory
whole_text_has_one_story parse_whole_header ls ms job other b c w v sized others one ones e =
    let same : ls ≡ ms =
    sym (ended_lines ls (lines_are_one parse_whole_header ls job b w sized one)) ∙ ap collect_lines e
    ∙ ended_lines ms (lines_are_one parse_whole_header ms other c v others ones) in
    one_story parse_whole_header ls job other b c w (subst (λ (l : List (List ℕ)). IsWholeTranscript parse_whole_header l other c) (sym same) v)
