-- How the size of a file is printed.
use Rattle.std.specs.Prelude.{ℕ, ◌/◌, ◌%◌, List, ◌++◌, codes, decimal, nat_lt, if◌then◌else◌}

-- a number of bytes in decimal units, rounded down: KB below 1 MB, and tenths of a MB below 10 MB
abbrev pub size_text : ℕ → List ℕ
size_text bytes =
    if nat_lt bytes 1000000 then decimal (bytes / 1000) ++ codes " KB"
    else if nat_lt bytes 10000000 then decimal (bytes / 1000000) ++ (codes "." ++ (decimal (bytes / 100000 % 10) ++ codes " MB"))
    else decimal (bytes / 1000000) ++ codes " MB"
