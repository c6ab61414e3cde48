-- That the tests of declarations tell whether they are the same.
use Rattle.std.proofs.Common.{◌≡◌, ℕ, List, bytes_eq, Option, Some, None, refl, ap}
use Rattle.std.specs.Prelude.{Bool, true, false, ◌&&◌}
use Rattle.std.specs.Bool.{Decides}
use Rattle.std.specs.Cmp.Lexicographic.{pointwise, pointwise_decides}
use Rattle.std.proofs.lemmas.Bool.Decides.{Decides-and, Decides-like}
use Rattle.std.proofs.lemmas.Slice.Eq.{bytes_eq-Decides}
use Rattle.smithy_declarations.specs.Decl.{MemberDecl, ListDecl, MapDecl, Form, structure, union, list, map as map_form, Decl}
use Rattle.smithy_table_text.specs.Comparing.{same_option, same_flag, same_member, same_list, same_map, same_members, same_form, same_decl}

some_is : (a b : List ℕ) → Some a ≡ Some b → a ≡ b
some_is a b is = cc (is)

option_decides : (a b : Option (List ℕ)) → Decides (same_option a b) (a ≡ b)
option_decides (Some a) (Some b) = Decides-like (bytes_eq a b) (ap Some) (some_is a b) (bytes_eq-Decides a b)
option_decides (Some a) None = (λ h. cc (h), λ h. cc (h))
option_decides None (Some b) = (λ h. cc (h), λ h. cc (h))
option_decides None None = (λ h. refl, λ h. refl)

flag_decides : (a b : Bool) → Decides (same_flag a b) (a ≡ b)
flag_decides true true = (λ h. refl, λ h. refl)
flag_decides true false = (λ h. cc (h), λ h. cc (h))
flag_decides false true = (λ h. cc (h), λ h. cc (h))
flag_decides false false = (λ h. refl, λ h. refl)

member_decides : (a b : MemberDecl) → Decides (same_member a b) (a ≡ b)
member_decides a b =
    let n = bytes_eq a.name b.name in
    let t = bytes_eq a.target b.target in
    let j = same_option a.json b.json in
    let x = same_option a.xml b.xml in
    let f = same_flag a.is_flat b.is_flat in
    let all = Decides-and (n && t && j && x && f) (same_option a.time b.time)
    (Decides-and (n && t && j && x) f
    (Decides-and (n && t && j) x
    (Decides-and (n && t) j (Decides-and n t (bytes_eq-Decides a.name b.name) (bytes_eq-Decides a.target b.target)) (option_decides a.json b.json))
    (option_decides a.xml b.xml)) (flag_decides a.is_flat b.is_flat)) (option_decides a.time b.time) in
    Decides-like (same_member a b)
    (λ p. λ i. record { name = p.0.0.0.0.0 i; target = p.0.0.0.0.1 i; json = p.0.0.0.1 i; xml = p.0.0.1 i; is_flat = p.0.1 i; time = p.1 i })
    (λ e. (
      (
        (((ap (λ (m : MemberDecl). m.name) e, ap (λ (m : MemberDecl). m.target) e), ap (λ (m : MemberDecl). m.json) e), ap (λ (m : MemberDecl). m.xml) e),
        ap (λ (m : MemberDecl). m.is_flat) e,
      ),
      ap (λ (m : MemberDecl). m.time) e,
    )) all

list_decides : (a b : ListDecl) → Decides (same_list a b) (a ≡ b)
list_decides a b =
    let t = bytes_eq a.target b.target in
    let s = same_flag a.is_sparse b.is_sparse in
    let x = same_option a.xml b.xml in
    let all = Decides-and (t && s && x) (same_option a.time b.time)
    (Decides-and (t && s) x (Decides-and t s (bytes_eq-Decides a.target b.target) (flag_decides a.is_sparse b.is_sparse)) (option_decides a.xml b.xml))
    (option_decides a.time b.time) in
    Decides-like (same_list a b)
    (λ p. λ i. record { target = p.0.0.0 i; is_sparse = p.0.0.1 i; xml = p.0.1 i; time = p.1 i })
    (λ e. (((ap (λ (l : ListDecl). l.target) e, ap (λ (l : ListDecl). l.is_sparse) e), ap (λ (l : ListDecl). l.xml) e), ap (λ (l : ListDecl). l.time) e)) all

map_decides : (a b : MapDecl) → Decides (same_map a b) (a ≡ b)
map_decides a b =
    let t = bytes_eq a.target b.target in
    let s = same_flag a.is_sparse b.is_sparse in
    let k = same_option a.key b.key in
    let v = same_option a.value b.value in
    let all = Decides-and (t && s && k && v) (same_option a.time b.time)
    (Decides-and (t && s && k) v
    (Decides-and (t && s) k (Decides-and t s (bytes_eq-Decides a.target b.target) (flag_decides a.is_sparse b.is_sparse)) (option_decides a.key b.key))
    (option_decides a.value b.value)) (option_decides a.time b.time) in
    Decides-like (same_map a b)
    (λ p. λ i. record { target = p.0.0.0.0 i; is_sparse = p.0.0.0.1 i; key = p.0.0.1 i; value = p.0.1 i; time = p.1 i })
    (λ e. (
      (((ap (λ (m : MapDecl). m.target) e, ap (λ (m : MapDecl). m.is_sparse) e), ap (λ (m : MapDecl). m.key) e), ap (λ (m : MapDecl). m.value) e),
      ap (λ (m : MapDecl). m.time) e,
    )) all

form_decides : (a b : Form) → Decides (same_form a b) (a ≡ b)
form_decides (structure ms) (structure ns) =
    Decides-like (same_members ms ns) (ap structure) (λ e. cc (e)) (pointwise_decides member_decides ms ns)
form_decides (structure ms) (union ns) = (λ h. cc (h), λ h. cc (h))
form_decides (structure ms) (list k) = (λ h. cc (h), λ h. cc (h))
form_decides (structure ms) (map_form k) = (λ h. cc (h), λ h. cc (h))
form_decides (union ms) (structure ns) = (λ h. cc (h), λ h. cc (h))
form_decides (union ms) (union ns) =
    Decides-like (same_members ms ns) (ap union) (λ e. cc (e)) (pointwise_decides member_decides ms ns)
form_decides (union ms) (list k) = (λ h. cc (h), λ h. cc (h))
form_decides (union ms) (map_form k) = (λ h. cc (h), λ h. cc (h))
form_decides (list l) (structure ns) = (λ h. cc (h), λ h. cc (h))
form_decides (list l) (union ns) = (λ h. cc (h), λ h. cc (h))
form_decides (list l) (list k) = Decides-like (same_list l k) (ap list) (λ e. cc (e)) (list_decides l k)
form_decides (list l) (map_form k) = (λ h. cc (h), λ h. cc (h))
form_decides (map_form m) (structure ns) = (λ h. cc (h), λ h. cc (h))
form_decides (map_form m) (union ns) = (λ h. cc (h), λ h. cc (h))
form_decides (map_form m) (list k) = (λ h. cc (h), λ h. cc (h))
form_decides (map_form m) (map_form k) = Decides-like (same_map m k) (ap map_form) (λ e. cc (e)) (map_decides m k)

decl_decides : (a b : Decl) → Decides (same_decl a b) (a ≡ b)
decl_decides a b =
    Decides-like (same_decl a b) (λ p. λ i. record { name = p.0 i; form = p.1 i }) (λ e. (ap (λ (d : Decl). d.name) e, ap (λ (d : Decl). d.form) e))
    (Decides-and (bytes_eq a.name b.name) (same_form a.form b.form) (bytes_eq-Decides a.name b.name) (form_decides a.form b.form))

pub decls_decide : (ds es : List Decl) → Decides (pointwise same_decl ds es) (ds ≡ es)
decls_decide ds es = pointwise_decides decl_decides ds es
