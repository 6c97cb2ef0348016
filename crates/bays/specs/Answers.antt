-- What each call answers: numbers that name nothing are refused first, and then what the libraries refuse.
use Rattle.std.specs.Prelude.{ℕ, List}
use Rattle.forms.specs.Choices.{layout_of}
use Rattle.forms.specs.Laying.{laying}
use Rattle.opening.specs.Pairs.{PairVerdict, pairing}
use Rattle.batches.specs.Pairs.{going, sheeting}
use Rattle.batches.specs.Records.{filling_of}
use Rattle.bays.specs.Named.{choice_named, opening_named, set_named}
use Rattle.bays.specs.Refusing.{Answer, fault_at, fill_fault, first_refused, form_check, in_numbers, pair_fault, question_check, sheet_fault, sort_check}
use Rattle.bays.specs.declared.structs.BaysTold.{BaysTold}

abbrev pub opening_answer : BaysTold → List ℕ → List ℕ → Answer
opening_answer t bytes numbers = first_refused (form_check t.form 1) (in_numbers (fault_at 1) (opening_named t bytes numbers))

abbrev pub asking_answer : BaysTold → List ℕ → List ℕ → ℕ → ℕ → Answer
asking_answer t bytes numbers question sort =
    first_refused (form_check t.form 1)
    (first_refused (question_check question)
    (first_refused (sort_check sort) (in_numbers (fault_at 1) (opening_named t bytes numbers))))

abbrev pub measuring_answer : BaysTold → List ℕ → List ℕ → ℕ → ℕ → Answer
measuring_answer t bytes numbers form size =
    first_refused (form_check t.form 1)
    (first_refused (form_check form 2)
    (in_numbers fill_fault (filling_of (opening_named t bytes numbers) (layout_of (choice_named form size)).measuring)))

-- with these two memories to fill
abbrev pub filling_answer : BaysTold → List ℕ → List ℕ → ℕ → ℕ → List ℕ → List ℕ → Answer
filling_answer t bytes numbers form size to_bytes to_numbers =
    first_refused (form_check t.form 1)
    (first_refused (form_check form 2)
    (in_numbers fill_fault
    (filling_of (opening_named t bytes numbers) (laying (choice_named form size) (set_named t bytes numbers) to_bytes to_numbers))))

-- of the free bays and of a class
module _ (f : BaysTold) (f_bytes f_numbers : List ℕ) (c : BaysTold) (c_bytes c_numbers : List ℕ) where
  abbrev pub pair_named : PairVerdict
  pair_named = pairing (opening_named f f_bytes f_numbers) (opening_named c c_bytes c_numbers)

  abbrev pub pair_answer : Answer
  pair_answer = first_refused (form_check f.form 1) (first_refused (form_check c.form 2) (in_numbers pair_fault pair_named))

  abbrev pub sheet_answer : ℕ → Answer
  sheet_answer place =
      first_refused (form_check f.form 1)
      (first_refused (form_check c.form 2)
      (in_numbers sheet_fault (sheeting pair_named (going (set_named f f_bytes f_numbers) (set_named c c_bytes c_numbers) place))))
