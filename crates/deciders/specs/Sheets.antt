-- A working sheet.
use Rattle.deciders.specs.declared.row.Row.{Row}

-- a row of zeros; it also stands for what is past the last row
abbrev pub zero_row : Row
zero_row = record { set = 0; parent = 0; place = 0 }
