-- The text of a table, line by line: which text is which list of declarations.
use Rattle.std.specs.Prelude.{ℕ, ◌==◌, ◌&&◌, ◌||◌, nat_le, List, [], ◌∷◌, ◌++◌, map as list_map, length, drop, Bool, true, not, fold, count_by, Option, Some, None, option_map, option_and_then, is_some, if◌then◌else◌, codes, bytes_eq}
use Rattle.std.specs.List.{list_all, list_any, filter_map, slice_split, starts_with, enumerate_from, slice_get}
use Rattle.std.specs.Option.{option_map_or}
use Rattle.std.specs.Str.{is_utf8, byte}
use Rattle.std.specs.Str.Lines.{strip_carriage_return}
use Rattle.smithy_declarations.specs.Decl.{MemberDecl, Form, structure, union, list, map, Decl}

-- the text has no bytes
abbrev pub is_empty : List ℕ → Bool
is_empty text = length text == 0

-- the words, parted by single spaces: none where one is empty
abbrev pub words_of : List ℕ → Option (List (List ℕ))
words_of line =
    let words = slice_split (λ b. b == byte " ") line in if list_any is_empty words then None else Some words

-- the text after `NAME=`, where the word begins with that and the text isn't empty
abbrev pub text_of_option : List ℕ → List ℕ → Option (List ℕ)
text_of_option name word =
    if starts_with (λ b c. b == c) word name && not (is_empty (drop (length name) word))
    then Some (drop (length name) word) else None

-- the texts that the words give this option
abbrev pub given : List (List ℕ) → List ℕ → List (List ℕ)
given words name = filter_map (text_of_option name) words

-- the first text that the words give this option, if there is one
abbrev pub first_given : List (List ℕ) → List ℕ → Option (List ℕ)
first_given words name = slice_get (given words name) 0

-- the flag stands among the words
abbrev pub has_flag : List (List ℕ) → List ℕ → Bool
has_flag words flag = list_any (λ word. bytes_eq word flag) words

-- the word is one of these options
abbrev pub gives_one : List (List ℕ) → List ℕ → Bool
gives_one names word = list_any (λ name. is_some (text_of_option name word)) names

-- each word is the flag or one of these options, and each of them stands at most once
abbrev pub are_options : List (List ℕ) → List ℕ → List (List ℕ) → Bool
are_options names flag words =
    list_all (λ word. bytes_eq word flag || gives_one names word) words
    && list_all (λ name. nat_le (length (given words name)) 1) names
    && nat_le (count_by (λ word. bytes_eq word flag) words) 1

-- what a line says
pub data Line : Type 0 where
  declares : Decl → Line
  adds : MemberDecl → Line

-- the line that declares a form under a name
abbrev pub declaring : List ℕ → Form → Option Line
declaring name form = Some (declares (record { name = name; form = form }))

-- structure N, union N
abbrev pub members_line : (List MemberDecl → Form) → List (List ℕ) → Option Line
members_line form (name ∷ []) = declaring name (form [])
members_line form _ = None

-- member NAME TARGET [json=J] [xml=X] [flat] [time=T]
abbrev pub member_line : List (List ℕ) → Option Line
member_line (name ∷ target ∷ words) =
    if are_options (codes "json=" ∷ codes "xml=" ∷ codes "time=" ∷ []) (codes "flat") words then Some (adds (record {
      name = name;
      target = target;
      json = first_given words (codes "json=");
      xml = first_given words (codes "xml=");
      is_flat = has_flag words (codes "flat");
      time = first_given words (codes "time=");
    })) else None
member_line _ = None

-- list N TARGET [sparse] [xml=X] [time=T]
abbrev pub list_line : List (List ℕ) → Option Line
list_line (name ∷ target ∷ words) =
    if are_options (codes "xml=" ∷ codes "time=" ∷ []) (codes "sparse") words then declaring name (list (record {
      target = target;
      is_sparse = has_flag words (codes "sparse");
      xml = first_given words (codes "xml=");
      time = first_given words (codes "time=");
    })) else None
list_line _ = None

-- map N TARGET [sparse] [key=K] [value=V] [time=T]
abbrev pub map_line : List (List ℕ) → Option Line
map_line (name ∷ target ∷ words) =
    if are_options (codes "key=" ∷ codes "value=" ∷ codes "time=" ∷ []) (codes "sparse") words then declaring name (map (record {
      target = target;
      is_sparse = has_flag words (codes "sparse");
      key = first_given words (codes "key=");
      value = first_given words (codes "value=");
      time = first_given words (codes "time=");
    })) else None
map_line _ = None

-- what the words of a line say, by the first of them
abbrev pub line_of : List (List ℕ) → Option Line
line_of [] = None
line_of (keyword ∷ words) =
    if bytes_eq keyword (codes "structure") then members_line structure words
    else if bytes_eq keyword (codes "union") then members_line union words
    else if bytes_eq keyword (codes "member") then member_line words
    else if bytes_eq keyword (codes "list") then list_line words
    else if bytes_eq keyword (codes "map") then map_line words else None

-- a line that is empty or begins with `#` says nothing
abbrev pub is_passed_over : List ℕ → Bool
is_passed_over [] = true
is_passed_over (b ∷ rest) = b == byte "#"

-- the form with one member more: a list and a map have none
abbrev pub with_member : MemberDecl → Form → Option Form
with_member m (structure ms) = Some (structure (ms ++ m ∷ []))
with_member m (union ms) = Some (union (ms ++ m ∷ []))
with_member m _ = None

-- the declarations with one member more in the last of them
abbrev pub add_member : MemberDecl → List Decl → Option (List Decl)
add_member m [] = None
add_member m (d ∷ []) = option_map (λ form. record d { form = form } ∷ []) (with_member m d.form)
add_member m (d ∷ e ∷ rest) = option_map (λ more. d ∷ more) (add_member m (e ∷ rest))

-- the declarations after what one more line says
abbrev pub after_saying : List Decl → Line → Option (List Decl)
after_saying decls (declares d) = Some (decls ++ d ∷ [])
after_saying decls (adds m) = add_member m decls

-- what a line says, if it is in UTF-8 and of one of the forms
abbrev pub line_said : List ℕ → Option Line
line_said line = if is_utf8 line then option_and_then line_of (words_of line) else None

-- the declarations after one more line
abbrev pub after_line : List Decl → List ℕ → Option (List Decl)
after_line decls line =
    if is_passed_over line then Some decls else option_and_then (after_saying decls) (line_said line)

-- what the lines so far are: declarations, or the number of the first bad line
pub data Lines : Type 0 where
  declarations : List Decl → Lines
  bad_line : ℕ → Lines

-- one more line and its number: behind the first bad line nothing counts
abbrev pub after_numbered_line : Lines → ℕ × List ℕ → Lines
after_numbered_line (bad_line n) line = bad_line n
after_numbered_line (declarations decls) line = option_map_or declarations (after_line decls line.1) (bad_line line.0)

-- the lines of a text, each without the one carriage return at its end
abbrev pub lines_of : List ℕ → List (List ℕ)
lines_of text = list_map strip_carriage_return (slice_split (λ b. b == byte "\n") text)

-- the declarations that the text is, or its first bad line, counted from 1
abbrev pub declarations_of : List ℕ → Lines
declarations_of text = fold after_numbered_line (declarations []) (enumerate_from 1 (lines_of text))
