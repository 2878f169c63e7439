-- How many lines of a day file have been read.
use Rattle.std.specs.Prelude.{ℕ}
use Rattle.day_file.specs.declared.frame.Frame.{Frame}

abbrev pub lines_read : Frame → ℕ
lines_read frame = frame.lines
