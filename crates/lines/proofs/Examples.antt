-- The example of document 01, "The line program", is what the definitions give; and so are lines at the edges of the language.
use mathlib.Core.Path.{◌≡◌, refl}
use Rattle.ordered.specs.Such.{last_such}
use Rattle.ordered.specs.Word.{side}
use Rattle.ordered.specs.Tree.{intact, size, entries}
use Rattle.ordered.specs.Way.{way, rows, broken, joined, following, passing_equal, pushing, down, staying}
use Rattle.ordered.specs.Reading.{rows_of, broken_in, has, next, prev, last, gap}
use Rattle.ordered.specs.Change.{adding, pushed, left_over, raised, erasing}
use Rattle.pretree.specs.Table.{capacity, row_at, with_serial, with_entry, with_link, with_row}
use Rattle.pretree.specs.Unfold.{unfolded, shown}
use Rattle.pretree.specs.Sound.{is_sound}
use Rattle.pretree.specs.Answer.{number_of, key_of, serial_of}
use Rattle.pretree.specs.Reply.{wrong_header, too_wide}
use Rattle.pretree.specs.Find.{has_reply, next_reply, prev_reply, first_reply}
use Rattle.pretree.specs.Add.{add_outcome, grown, taking}
use Rattle.pretree.specs.Del.{del_outcome, second_way, astray, moving, shrunk}
use Rattle.pretree.specs.Call.{after}
use Rattle.pretree.specs.Whole.{new_reply, new_table, list_reply, list_buffer}
use Rattle.numbers.specs.Decimal.{read_number, is_number, are_digits, spelt}
use Rattle.lines.specs.Line.{parse, after_word, read_two}
use Rattle.lines.specs.Render.{digits, digits_within, reply_line, key_line, key_lines}
use Rattle.lines.specs.Output.{listed_by, answer, written, written_for, ended, unended, lines_of, output}
use Rattle.ordered.specs.Example.{AllAgree}
use Rattle.lines.specs.Text.{bytes, until_byte}
use Rattle.lines.specs.Example.{given, wanted, readings}

pub example_agrees : output given ≡ wanted
unfolding parse after_word read_two until_byte read_number is_number are_digits spelt digits digits_within reply_line key_line key_lines
    listed_by after answer written written_for ended unended lines_of output
    has_reply next_reply prev_reply has next prev last gap number_of key_of serial_of
    shown unfolded row_at capacity wrong_header too_wide rows_of broken_in way rows broken following passing_equal down staying last_such side
    add_outcome adding pushed left_over grown taking with_serial with_entry with_link with_row
    del_outcome second_way astray moving shrunk raised erasing new_reply new_table list_reply list_buffer is_sound intact size entries pushing joined
example_agrees = refl

-- "or at the end of input if bytes are left"
pub last_line_agrees : output (bytes "\nfirst") ≡ bytes "1\t9\t-\t0\t0\t-\n2\t2\t-\t0\t0\t-\n"
unfolding parse after_word read_two until_byte read_number is_number are_digits spelt digits digits_within reply_line key_line key_lines listed_by after answer written written_for ended unended lines_of output
    first_reply number_of key_of serial_of wrong_header
last_line_agrees = refl

pub readings_agree : AllAgree readings
unfolding parse after_word read_two until_byte read_number is_number are_digits spelt
readings_agree = refl
