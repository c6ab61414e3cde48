-- The forms of a model's text.

-- A Smithy 2.0 model as JSON, or a service-2.json. The second has one name for a member on the wire, `locationName`, which
-- is that of its protocol: of one with JSON bodies, of one with XML bodies, or of EC2.
pub data Form : Type 0 where
  smithy json_service xml_service ec2_service : Form
