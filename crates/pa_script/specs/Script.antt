-- The lines of a script, or its first faulty line.
use Rattle.std.specs.Prelude.{ℕ, ◌+◌, ◌-◌, ◌==◌, ◌||◌, ◌&&◌, List, [], ◌∷◌, ◌++◌, length, take, nat_lt, nat_le, Bool, not, Result, Ok, Err, if◌then◌else◌}
use Rattle.std.specs.List.{slice_split}
use Rattle.std.specs.Prelude.{slice_index}
use Rattle.pa_math.specs.Answers.{and_then}
use Rattle.pa_script.specs.declared.fault.ScriptFault.{ScriptFault}
use Rattle.pa_script.specs.declared.fault.ScriptFault.TheVariants.{TooLong, Line}
use Rattle.pa_script.specs.declared.fault.LineKind.TheVariants as kind
use Rattle.pa_script.specs.declared.op.ScriptLine.{ScriptLine}
use Rattle.pa_script.specs.Words.{is_there, first_word}
use Rattle.pa_script.specs.declared.read.TheConstants.{MOST_LINES, MOST_SCRIPT}
use Rattle.pa_script.specs.declared.op.Op.{Op}
use Rattle.pa_script.specs.Steps.{each}
use Rattle.pa_script.specs.Lines.{op_of}

-- how many bytes a script, and how many lines that are not skipped, it has at most
abbrev pub most_bytes : ℕ
most_bytes = MOST_SCRIPT

abbrev pub most_lines : ℕ
most_lines = MOST_LINES

-- the line without the carriage return at its end
abbrev pub without_return : List ℕ → List ℕ
without_return line = if nat_le 1 (length line) && (slice_index line (length line - 1) == 13) then take (length line - 1) line else line

-- a line without words, or whose first word begins with `#`
abbrev pub is_skipped : List ℕ → Bool
is_skipped line = not (is_there (first_word line)) || (slice_index (first_word line) 0 == 35)

-- the line that a piece between line feeds is; the last piece has no line feed behind it, and keeps its carriage return
abbrev pub line_of : Bool → List ℕ → List ℕ
line_of is_last piece = if is_last then piece else without_return piece

-- the lines with their numbers
abbrev pub numbered : ℕ → List (List ℕ) → List (ℕ × List ℕ)
numbered number [] = []
numbered number (piece ∷ pieces) = (number, line_of (length pieces == 0) piece) ∷ numbered (number + 1) pieces

-- the lines with one more operation
abbrev pub with_op : List ScriptLine → ℕ → Op → List ScriptLine
with_op lines number op = lines ++ record { number = number; op = op } ∷ []

-- the lines with one more that is not skipped
abbrev pub with_words : List ScriptLine → ℕ → List ℕ → Result (List ScriptLine) ScriptFault
with_words lines number line = if nat_le most_lines (length lines) then Err (Line number kind.Limit)
    else and_then (op_of number line) (λ op. Ok (with_op lines number op))

-- the lines with one more, where it is not skipped
abbrev pub with_line : List ScriptLine → ℕ × List ℕ → Result (List ScriptLine) ScriptFault
with_line lines line = if is_skipped line.1 then Ok lines else with_words lines line.0 line.1

-- the lines that pieces between line feeds are, counted from 1
abbrev pub with_pieces : List (List ℕ) → Result (List ScriptLine) ScriptFault
with_pieces pieces = each with_line [] (numbered 1 pieces)

-- the lines of a text that are not skipped
abbrev pub script_of : List ℕ → Result (List ScriptLine) ScriptFault
script_of bytes = if nat_lt most_bytes (length bytes) then Err TooLong else with_pieces (slice_split (λ b. b == 10) bytes)
