mod WholeValues
