-- What the words of a line say one by one, in each form of script: a value, or the reason why none.
use Rattle.std.specs.Prelude.{ℕ, List, [], ◌∷◌, codes, Result, Ok, Err}
use Rattle.std.specs.Option.{ok_or}
use Rattle.xl_model.specs.declared.address.Order.{Order}
use Rattle.xl_model.specs.declared.perm.Perm.{Perm}
use Rattle.xl_script.specs.Numbers.{decimal_of, hexadecimal_of}
use Rattle.xl_script.specs.Words.{order_of, perm_of}
use Rattle.xl_script.specs.declared.reason.Reason.{Reason}
use Rattle.xl_script.specs.declared.reason.Reason.TheVariants as reason

infixl 10 ◌>>=◌
-- One reading after another: the first reason counts.
abbrev pub ◌>>=◌ : {A B : Type 0} → Result A Reason → (A → Result B Reason) → Result B Reason
Ok a >>= f = f a
Err e >>= f = Err e

-- A decimal number from least to most.
abbrev pub number : ℕ → ℕ → List ℕ → Result ℕ Reason
number least most word = ok_or (decimal_of least most word) reason.Number

-- SPACE and H are numbers from 0 to 65535.
abbrev pub short_in : List ℕ → Result ℕ Reason
short_in word = number 0 65535 word

-- ADDR is a hexadecimal number.
abbrev pub address_in : List ℕ → Result ℕ Reason
address_in word = ok_or (hexadecimal_of word) reason.Number

-- ORDER is a page's size.
abbrev pub order_in : List ℕ → Result Order Reason
order_in word = ok_or (order_of word) reason.Order

-- PERM is a legal permission.
abbrev pub perm_in : List ℕ → Result Perm Reason
perm_in word = ok_or (perm_of word) reason.Perm

-- N is a number from 1 to 2 ^ 20.
abbrev pub count_in : List ℕ → Result ℕ Reason
count_in word = number 1 1048576 word

-- N where it is left out.
abbrev pub one : List ℕ
one = codes "1"

-- N is the last word, or left out.
abbrev pub last_count : List (List ℕ) → Result (List ℕ) Reason
last_count [] = Ok one
last_count (n ∷ []) = Ok n
last_count (n ∷ more ∷ rest) = Err reason.WordCount

-- The number of a reason.
abbrev pub code_of : Reason → ℕ
code_of reason.FirstWord = 1
code_of reason.WordCount = 2
code_of reason.Number = 3
code_of reason.Order = 4
code_of reason.Perm = 5
code_of reason.PastTheEnd = 6
code_of reason.TooManyAreas = 7
code_of reason.Head = 8
