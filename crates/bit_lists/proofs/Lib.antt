mod BitsOf
