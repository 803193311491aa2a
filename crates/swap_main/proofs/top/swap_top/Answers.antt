use Rattle.std.proofs.Common.{ℕ, List, map, string_bytes, refl}
use Rattle.program_words.specs.declared.task.Task.TheVariants.{Input, Race, Number}
use Rattle.program_words.proofs.Ranges.{task_within}
use Rattle.swap_main.proofs.Performing as tasks
use Rattle.swap_main.proofs.top.swap_top.Goals as goal

pub perform_race-requires-clause-some : goal.perform_race-requires-clause-some
perform_race-requires-clause-some g c =
    λ κs lives.
    let words : List (List ℕ) = map string_bytes c.args.words.now.items in
    let is = tasks.asked_as _ _ _ _ _ _ c.deref.ensures.value c.in-Ok.ensures.exact c.in-Some.is c.in-Race.is in
    (task_within words (Race c.in-Race.ticks c.in-Race.transcript) is).0

pub perform_race-requires-clause-below : goal.perform_race-requires-clause-below
perform_race-requires-clause-below g c =
    λ κs lives.
    let words : List (List ℕ) = map string_bytes c.args.words.now.items in
    let is = tasks.asked_as _ _ _ _ _ _ c.deref.ensures.value c.in-Ok.ensures.exact c.in-Some.is c.in-Race.is in
    (task_within words (Race c.in-Race.ticks c.in-Race.transcript) is).1

pub generate-requires-clause-low : goal.generate-requires-clause-low
generate-requires-clause-low g c = (tasks.request_within _ _ _ _ _ _ c.deref.ensures.value c.in-Ok.ensures.exact c.in-Some.is c.in-Number.is).0

pub generate-requires-clause-high : goal.generate-requires-clause-high
generate-requires-clause-high g c = (tasks.request_within _ _ _ _ _ _ c.deref.ensures.value c.in-Ok.ensures.exact c.in-Some.is c.in-Number.is).1

pub returns-in-Input-clause-words : goal.returns-in-Input-clause-words
returns-in-Input-clause-words g c =
    let words : List (List ℕ) = map string_bytes c.args.words.now.items in
    let is = tasks.asked_as _ _ _ _ _ _ c.deref.ensures.value c.in-Ok.ensures.exact c.in-Some.is c.in-Input.is in
    tasks.never_wrong words (Input c.in-Input.given) is c.run_order.result (tasks.said_is_right _ _ _ _ _ _ _ _ _ _ _ c.run_order.result c.run_order.ensures.says)

pub returns-in-Race-clause-words : goal.returns-in-Race-clause-words
returns-in-Race-clause-words g c =
    let words : List (List ℕ) = map string_bytes c.args.words.now.items in
    let is = tasks.asked_as _ _ _ _ _ _ c.deref.ensures.value c.in-Ok.ensures.exact c.in-Some.is c.in-Race.is in
    tasks.never_wrong words (Race c.in-Race.ticks c.in-Race.transcript) is c.perform_race.result
    (tasks.said_is_right _ _ _ _ _ _ _ _ _ _ _ c.perform_race.result c.perform_race.ensures.says)

pub returns-in-Number-clause-words : goal.returns-in-Number-clause-words
returns-in-Number-clause-words g c =
    let words : List (List ℕ) = map string_bytes c.args.words.now.items in
    let is = tasks.asked_as _ _ _ _ _ _ c.deref.ensures.value c.in-Ok.ensures.exact c.in-Some.is c.in-Number.is in
    tasks.never_wrong words (Number c.in-Number.request) is c.generate.result (tasks.made_is_right _ _ _ _ _ c.generate.result c.generate.ensures)

pub returns-in_default-read-clause-words : goal.returns-in_default-read-clause-words
returns-in_default-read-clause-words g c =
    let none = tasks.none_asked _ _ _ _ c.deref.ensures.value c.in-Ok.ensures.exact c.in_default-read.is in
    (λ e. none, λ e. refl)

pub returns-in-Input-clause-unread : goal.returns-in-Input-clause-unread
returns-in-Input-clause-unread g c e =
    absurd (tasks.said_is_right _ _ _ _ _ _ _ _ _ _ _ c.run_order.result c.run_order.ensures.says e)

pub returns-in-Race-clause-unread : goal.returns-in-Race-clause-unread
returns-in-Race-clause-unread g c e =
    absurd (tasks.said_is_right _ _ _ _ _ _ _ _ _ _ _ c.perform_race.result c.perform_race.ensures.says e)

pub returns-in-Number-clause-unread : goal.returns-in-Number-clause-unread
returns-in-Number-clause-unread g c e =
    absurd (tasks.made_is_right _ _ _ _ _ c.generate.result c.generate.ensures e)

pub returns-in-Input-clause-unread_by_number : goal.returns-in-Input-clause-unread_by_number
returns-in-Input-clause-unread_by_number g c request number =
    let words : List (List ℕ) = map string_bytes c.args.words.now.items in
    let is = tasks.asked_as _ _ _ _ _ _ c.deref.ensures.value c.in-Ok.ensures.exact c.in-Some.is c.in-Input.is in
    absurd (cc (tasks.number_is words (Input c.in-Input.given) request is number))

pub returns-in-Race-clause-unread_by_number : goal.returns-in-Race-clause-unread_by_number
returns-in-Race-clause-unread_by_number g c request number =
    let words : List (List ℕ) = map string_bytes c.args.words.now.items in
    let is = tasks.asked_as _ _ _ _ _ _ c.deref.ensures.value c.in-Ok.ensures.exact c.in-Some.is c.in-Race.is in
    absurd (cc (tasks.number_is words (Race c.in-Race.ticks c.in-Race.transcript) request is number))

pub returns-in-Input-clause-answer : goal.returns-in-Input-clause-answer
returns-in-Input-clause-answer g c =
    let words : List (List ℕ) = map string_bytes c.args.words.now.items in
    let is = tasks.asked_as _ _ _ _ _ _ c.deref.ensures.value c.in-Ok.ensures.exact c.in-Some.is c.in-Input.is in
    tasks.answer _ words _ _ (Input c.in-Input.given) is c.run_order.result c.run_order.ensures.says

pub returns-in-Race-clause-answer : goal.returns-in-Race-clause-answer
returns-in-Race-clause-answer g c =
    let words : List (List ℕ) = map string_bytes c.args.words.now.items in
    let is = tasks.asked_as _ _ _ _ _ _ c.deref.ensures.value c.in-Ok.ensures.exact c.in-Some.is c.in-Race.is in
    tasks.answer _ words _ _ (Race c.in-Race.ticks c.in-Race.transcript) is c.perform_race.result c.perform_race.ensures.says

pub returns-in-Number-clause-answer : goal.returns-in-Number-clause-answer
returns-in-Number-clause-answer g c =
    let words : List (List ℕ) = map string_bytes c.args.words.now.items in
    let is = tasks.asked_as _ _ _ _ _ _ c.deref.ensures.value c.in-Ok.ensures.exact c.in-Some.is c.in-Number.is in
    tasks.answer _ words _ _ (Number c.in-Number.request) is c.generate.result (refl, c.generate.ensures)

pub returns-in_default-read-clause-answer : goal.returns-in_default-read-clause-answer
returns-in_default-read-clause-answer g c =
    let words : List (List ℕ) = map string_bytes c.args.words.now.items in
    let none = tasks.none_asked _ _ _ _ c.deref.ensures.value c.in-Ok.ensures.exact c.in_default-read.is in
    tasks.with_wrong_words _ words _ none

pub returns-in_default-clause-answer : goal.returns-in_default-clause-answer
returns-in_default-clause-answer g c =
    tasks.without_memory _ (map string_bytes c.args.words.now.items) _
