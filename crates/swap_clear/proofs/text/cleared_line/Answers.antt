use Rattle.swap_clear.proofs.Texts.{are_texts}
use Rattle.swap_clear.proofs.text.cleared_line.Goals as goal

pub to_text-requires : goal.to_text-requires
to_text-requires c = are_texts c.in_ok-cleared.cleared.wishes.names c.in_ok-cleared.ensures.within.names
