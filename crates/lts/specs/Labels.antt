-- What the number of a label stands for, and how a label is written.
use Rattle.std.specs.Prelude.{ℕ, zero, suc, List, unwrap_or, codes}
use Rattle.std.specs.Char.{encode_utf8}
use Rattle.lts.specs.Processes.{letter}
use Rattle.lts.specs.declared.labels.Label.{Label}
use Rattle.lts.specs.declared.labels.Label.TheVariants.{Inner, TimeOut, Signal}

abbrev pub label_of : ℕ → Label
label_of zero = Inner
label_of (suc zero) = TimeOut
label_of (suc (suc i)) = Signal i

-- as it is written: the word of users, or the letter of a signal, and `?` for a signal that has none
abbrev pub word : Label → List ℕ
word Inner = codes "tau"
word TimeOut = codes "t"
word (Signal i) = encode_utf8 (unwrap_or (letter i) 63)
