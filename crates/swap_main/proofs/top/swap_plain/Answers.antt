use Rattle.std.proofs.Common.{ℕ, List, map, string_bytes, refl}
use Rattle.program_words.specs.declared.task.Task.TheVariants.{Input, Number}
use Rattle.swap_main.proofs.Asking.{is_a_race, number_is_no_race, order_is_no_race}
use Rattle.swap_main.proofs.Performing as tasks
use Rattle.swap_main.proofs.top.swap_plain.Goals as goal

pub generate-requires-clause-low : goal.generate-requires-clause-low
generate-requires-clause-low g c = (tasks.request_within _ _ _ _ _ _ c.deref.ensures.value c.in-Ok.ensures.exact c.in-Some.is c.in-Number.is).0

pub generate-requires-clause-high : goal.generate-requires-clause-high
generate-requires-clause-high g c = (tasks.request_within _ _ _ _ _ _ c.deref.ensures.value c.in-Ok.ensures.exact c.in-Some.is c.in-Number.is).1

pub returns-in-Race-clause-words : goal.returns-in-Race-clause-words
returns-in-Race-clause-words g c calm =
    let words : List (List ℕ) = map string_bytes c.args.words.now.items in
    let is = tasks.asked_as _ _ _ _ _ _ c.deref.ensures.value c.in-Ok.ensures.exact c.in-Some.is c.in-Race.is in
    absurd (calm (is_a_race words c.in-Race.ticks c.in-Race.transcript is))

pub returns-in-Input-clause-words : goal.returns-in-Input-clause-words
returns-in-Input-clause-words g c calm =
    let words : List (List ℕ) = map string_bytes c.args.words.now.items in
    let is = tasks.asked_as _ _ _ _ _ _ c.deref.ensures.value c.in-Ok.ensures.exact c.in-Some.is c.in-Input.is in
    tasks.never_wrong words (Input c.in-Input.order) is c.run_order.result (tasks.said_is_right _ _ _ _ _ _ _ _ _ _ _ c.run_order.result c.run_order.ensures.says)

pub returns-in-Number-clause-words : goal.returns-in-Number-clause-words
returns-in-Number-clause-words g c calm =
    let words : List (List ℕ) = map string_bytes c.args.words.now.items in
    let is = tasks.asked_as _ _ _ _ _ _ c.deref.ensures.value c.in-Ok.ensures.exact c.in-Some.is c.in-Number.is in
    tasks.never_wrong words (Number c.in-Number.request) is c.generate.result (tasks.made_is_right _ _ _ _ _ c.generate.result c.generate.ensures)

pub returns-in_default-asked-clause-words : goal.returns-in_default-asked-clause-words
returns-in_default-asked-clause-words g c calm =
    let none = tasks.none_asked _ _ _ _ c.deref.ensures.value c.in-Ok.ensures.exact c.in_default-asked.is in
    (λ e. none, λ e. refl)

pub returns-in-Input-clause-unread : goal.returns-in-Input-clause-unread
returns-in-Input-clause-unread g c e =
    absurd (tasks.said_is_right _ _ _ _ _ _ _ _ _ _ _ c.run_order.result c.run_order.ensures.says e)

pub returns-in-Number-clause-unread : goal.returns-in-Number-clause-unread
returns-in-Number-clause-unread g c e =
    absurd (tasks.made_is_right _ _ _ _ _ c.generate.result c.generate.ensures e)

pub returns-in-Input-clause-unread_by_number : goal.returns-in-Input-clause-unread_by_number
returns-in-Input-clause-unread_by_number g c request number =
    let words : List (List ℕ) = map string_bytes c.args.words.now.items in
    let is = tasks.asked_as _ _ _ _ _ _ c.deref.ensures.value c.in-Ok.ensures.exact c.in-Some.is c.in-Input.is in
    absurd (cc (tasks.number_is words (Input c.in-Input.order) request is number))

pub returns-in-Race-clause-answer : goal.returns-in-Race-clause-answer
returns-in-Race-clause-answer g c calm =
    let words : List (List ℕ) = map string_bytes c.args.words.now.items in
    let is = tasks.asked_as _ _ _ _ _ _ c.deref.ensures.value c.in-Ok.ensures.exact c.in-Some.is c.in-Race.is in
    absurd (calm (is_a_race words c.in-Race.ticks c.in-Race.transcript is))

pub returns-in-Input-clause-answer : goal.returns-in-Input-clause-answer
returns-in-Input-clause-answer g c calm =
    let words : List (List ℕ) = map string_bytes c.args.words.now.items in
    let is = tasks.asked_as _ _ _ _ _ _ c.deref.ensures.value c.in-Ok.ensures.exact c.in-Some.is c.in-Input.is in
    tasks.answer _ words _ _ (Input c.in-Input.order) is c.run_order.result c.run_order.ensures.says

pub returns-in-Number-clause-answer : goal.returns-in-Number-clause-answer
returns-in-Number-clause-answer g c calm =
    let words : List (List ℕ) = map string_bytes c.args.words.now.items in
    let is = tasks.asked_as _ _ _ _ _ _ c.deref.ensures.value c.in-Ok.ensures.exact c.in-Some.is c.in-Number.is in
    tasks.answer _ words _ _ (Number c.in-Number.request) is c.generate.result (refl, c.generate.ensures)

pub returns-in_default-asked-clause-answer : goal.returns-in_default-asked-clause-answer
returns-in_default-asked-clause-answer g c calm =
    let words : List (List ℕ) = map string_bytes c.args.words.now.items in
    let none = tasks.none_asked _ _ _ _ c.deref.ensures.value c.in-Ok.ensures.exact c.in_default-asked.is in
    tasks.with_wrong_words _ words _ none

pub returns-in_default-clause-answer : goal.returns-in_default-clause-answer
returns-in_default-clause-answer g c calm =
    tasks.without_memory _ (map string_bytes c.args.words.now.items) _

pub returns-in-Input-clause-no_race : goal.returns-in-Input-clause-no_race
returns-in-Input-clause-no_race g c race =
    let words : List (List ℕ) = map string_bytes c.args.words.now.items in
    let is = tasks.asked_as _ _ _ _ _ _ c.deref.ensures.value c.in-Ok.ensures.exact c.in-Some.is c.in-Input.is in
    absurd (order_is_no_race words c.in-Input.order is race)

pub returns-in-Number-clause-no_race : goal.returns-in-Number-clause-no_race
returns-in-Number-clause-no_race g c race =
    let words : List (List ℕ) = map string_bytes c.args.words.now.items in
    let is = tasks.asked_as _ _ _ _ _ _ c.deref.ensures.value c.in-Ok.ensures.exact c.in-Some.is c.in-Number.is in
    absurd (number_is_no_race words c.in-Number.request is race)

pub returns-in-Input-clause-no_race_unread : goal.returns-in-Input-clause-no_race_unread
returns-in-Input-clause-no_race_unread g c race =
    let words : List (List ℕ) = map string_bytes c.args.words.now.items in
    let is = tasks.asked_as _ _ _ _ _ _ c.deref.ensures.value c.in-Ok.ensures.exact c.in-Some.is c.in-Input.is in
    absurd (order_is_no_race words c.in-Input.order is race)

pub returns-in-Number-clause-no_race_unread : goal.returns-in-Number-clause-no_race_unread
returns-in-Number-clause-no_race_unread g c race =
    let words : List (List ℕ) = map string_bytes c.args.words.now.items in
    let is = tasks.asked_as _ _ _ _ _ _ c.deref.ensures.value c.in-Ok.ensures.exact c.in-Some.is c.in-Number.is in
    absurd (number_is_no_race words c.in-Number.request is race)

pub returns-in-Input-clause-no_race_unwritten : goal.returns-in-Input-clause-no_race_unwritten
returns-in-Input-clause-no_race_unwritten g c race =
    let words : List (List ℕ) = map string_bytes c.args.words.now.items in
    let is = tasks.asked_as _ _ _ _ _ _ c.deref.ensures.value c.in-Ok.ensures.exact c.in-Some.is c.in-Input.is in
    absurd (order_is_no_race words c.in-Input.order is race)

pub returns-in-Number-clause-no_race_unwritten : goal.returns-in-Number-clause-no_race_unwritten
returns-in-Number-clause-no_race_unwritten g c race =
    let words : List (List ℕ) = map string_bytes c.args.words.now.items in
    let is = tasks.asked_as _ _ _ _ _ _ c.deref.ensures.value c.in-Ok.ensures.exact c.in-Some.is c.in-Number.is in
    absurd (number_is_no_race words c.in-Number.request is race)
