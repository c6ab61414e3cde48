use Rattle.library_checks.proofs.documents.document_of.Goals as goal

-- the iterator surely gives the tokens of the tree
pub returns-in-Ok : goal.returns-in-Ok
returns-in-Ok c = λ tree greatest d most is means.
    c.expect_document.ensures.meaning tree greatest d most means (c.in-Ok.ensures.gives tree is)
