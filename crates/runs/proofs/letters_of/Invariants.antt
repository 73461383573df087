-- `runs::letters_of` meets its contract. The loop's invariant: the word is that of the letters passed, and has as many bits. Assumes nothing.
use Rattle.std.proofs.Common.{◌≡◌, ◌^◌, ◌<◌, take}
use Rattle.runs.specs.Runs.{present}
use Rattle.runs.proofs.letters_of.Given as goal

abbrev pub invariant-loop-count : goal.invariant-loop-count
invariant-loop-count l = record { word : l.word ≡ present (take l.count-index l.tally); fits : l.word < 2 ^ l.count-index }
