-- A path as a text.
use Rattle.std.specs.Prelude.{ℕ, List, [], ◌∷◌, ◌++◌, Option, Some, option_and_then, unwrap_or, codes}
use Rattle.std.specs.Fmt.{decimal}
use Rattle.smithy_shapes.specs.Site.{Site, shape_site, member_site, inner_site}
use Rattle.smithy_declarations.specs.Table.{Table}
use Rattle.smithy_json.specs.Escape.{quoted}
use Rattle.smithy_compare.specs.Tree.{Step, member, element, key}

-- where a step leads: to a member, to the elements of a list or to the values of a map
abbrev pub site_behind : Step → Site → Option Site
site_behind (member n) site = member_site site n
site_behind _ site = inner_site site

-- the name of a member, which is empty where there is no such member
abbrev pub name_at : Option Site → List ℕ
name_at site = unwrap_or (option_and_then (λ (s : Site). s.view.name) site) []

-- a step that leads there
abbrev pub step_text : Option Site → Step → List ℕ
step_text there (member n) = codes "." ++ name_at there
step_text there (element i) = codes "[" ++ decimal i ++ codes "]"
step_text there (key k) = codes "{" ++ quoted k ++ codes "}"

-- The steps from a site on. Inside of a document there is none.
abbrev pub steps_text : Option Site → List Step → List ℕ
steps_text site [] = []
steps_text site (s ∷ path) =
    step_text (option_and_then (site_behind s) site) s ++ steps_text (option_and_then (site_behind s) site) path

-- a path from the root on
abbrev pub text_of_path : Table → ℕ → List Step → List ℕ
text_of_path table root path = codes "$" ++ steps_text (Some (shape_site table root)) path
