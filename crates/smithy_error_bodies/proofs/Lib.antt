mod JsonTelling
mod JsonShapes
mod JsonObjects
mod CborLemmas
